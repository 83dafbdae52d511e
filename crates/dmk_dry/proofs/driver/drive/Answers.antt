use Rattle.std.proofs.Common.{not, ap, refl}
use Rattle.mk_rule_lines.proofs.ResultLemmas.{if_ok, if_err}
use Rattle.st_disk.specs.Faults.{Rises}
use Rattle.dmk_dry.specs.Faults.{IsFaultOf}
use Rattle.dmk_dry.specs.Output.{SaysNote}
use Rattle.dmk_dry.proofs.DriveLemmas.{told_of, listed_plan, asked_plan, quiet_run, silent_plan, refused_plan, no_run, fault_of, all_went, not_two}
use Rattle.dmk_dry.proofs.driver.drive.Goals as goal

pub returns-clause-listed : goal.returns-clause-listed
returns-clause-listed g c = λ asks zero world looks text now.
    let seen = g.D.Disk.seen c.args.disk in
    let told = told_of world looks c.args.options.makefiles c.args.options.profile c.args.options.definitions.items
    c.deref.result.now c.args.environment.now c.args.options.targets c.args.options.makes_all c.args.options.goes_on g.D.Disk.honest seen
    c.args.options.telling (not c.args.options.asks) c.dry_run-found.result c.deref.ensures.value (if_ok c.dry_run-found.result _ _ (λ run tells. tells world looks text now) c.dry_run-found.ensures.tells) in
    let other = not_two c.say-always.result.0.status zero in
    let whole = all_went c.say-always.result.0.is_whole c.say-always.result.0.status _ c.say-always.ensures.refused other in
    listed_plan world looks c.args.options.makefiles c.args.options.profile c.args.options.definitions.items c.args.environment.now c.args.options.targets c.args.options.makes_all
    c.args.options.goes_on g.D.Disk.honest seen c.args.options.telling (not c.args.options.asks) c.args.options.asks (g.O.Write.contents c.args.out.now)
    (g.O.Write.contents c.say-always.new.out) c.say-always.result.0.status c.dry_run-found.result told (c.say-always.ensures.found whole)
    (ap not asks.0) asks.0 other (c.say-always.ensures.status whole) (c.say-always.ensures.whole whole) _ (c.say-always.ensures.note whole)
    (SaysNote (g.E.Write.contents c.args.err.now) (g.E.Write.contents c.say-always.new.err) c.say-always.result.0.is_told)
    (c.say-always.ensures.noted whole) c.say-always.result.1.items (c.say-always.ensures.always whole)

pub returns-clause-asked : goal.returns-clause-asked
returns-clause-asked g c = λ asks other world looks text now.
    let seen = g.D.Disk.seen c.args.disk in
    let told = told_of world looks c.args.options.makefiles c.args.options.profile c.args.options.definitions.items
    c.deref.result.now c.args.environment.now c.args.options.targets c.args.options.makes_all c.args.options.goes_on g.D.Disk.honest seen
    c.args.options.telling (not c.args.options.asks) c.dry_run-found.result c.deref.ensures.value (if_ok c.dry_run-found.result _ _ (λ run tells. tells world looks text now) c.dry_run-found.ensures.tells) in
    let whole = all_went c.say-always.result.0.is_whole c.say-always.result.0.status _ c.say-always.ensures.refused other in
    asked_plan world looks c.args.options.makefiles c.args.options.profile c.args.options.definitions.items c.args.environment.now c.args.options.targets c.args.options.makes_all
    c.args.options.goes_on g.D.Disk.honest seen c.args.options.telling (not c.args.options.asks) c.args.options.asks (g.O.Write.contents c.args.out.now)
    (g.O.Write.contents c.say-always.new.out) c.say-always.result.0.status c.dry_run-found.result told (c.say-always.ensures.found whole) (ap not asks) asks other
    (c.say-always.ensures.status whole) (c.say-always.ensures.whole whole) c.say-always.result.1.items (c.say-always.ensures.always whole)

pub returns-clause-quiet : goal.returns-clause-quiet
returns-clause-quiet g c = λ asks other.
    let whole = all_went c.say-always.result.0.is_whole c.say-always.result.0.status _ c.say-always.ensures.refused other in
    quiet_run c.args.options.asks c.say-always.result.0.status c.dry_run-found.result (c.say-always.ensures.found whole) asks other (c.say-always.ensures.status whole) _
    (c.say-always.ensures.note whole)

pub returns-clause-silent : goal.returns-clause-silent
returns-clause-silent g c = λ asks nothing.
    let (world, text) = g.met.I.Includes.possible c.dry_run-found.new.includes in
    let (looks, now) = g.met.T.Tree.possible c.dry_run-found.new.tree in
    let seen = g.D.Disk.seen c.args.disk in
    let told = told_of world looks c.args.options.makefiles c.args.options.profile c.args.options.definitions.items
    c.deref.result.now c.args.environment.now c.args.options.targets c.args.options.makes_all c.args.options.goes_on g.D.Disk.honest seen
    c.args.options.telling (not c.args.options.asks) c.dry_run-found.result c.deref.ensures.value (if_ok c.dry_run-found.result _ _ (λ run tells. tells world looks text now) c.dry_run-found.ensures.tells) in
    silent_plan world looks c.args.options.makefiles c.args.options.profile c.args.options.definitions.items c.args.environment.now c.args.options.targets c.args.options.makes_all
    c.args.options.goes_on g.D.Disk.honest seen c.args.options.telling (not c.args.options.asks) (g.O.Write.contents c.args.out.now)
    (g.O.Write.contents c.say-always.new.out) c.say-always.result.0.is_whole c.dry_run-found.result told nothing (ap not asks) c.say-always.ensures.whole c.say-always.ensures.part c.say-always.ensures.silent

pub returns-clause-refused : goal.returns-clause-refused
returns-clause-refused g c = λ two world looks text now.
    let seen = g.D.Disk.seen c.args.disk in
    let told = told_of world looks c.args.options.makefiles c.args.options.profile c.args.options.definitions.items
    c.deref.result.now c.args.environment.now c.args.options.targets c.args.options.makes_all c.args.options.goes_on g.D.Disk.honest seen
    c.args.options.telling (not c.args.options.asks) c.dry_run-found.result c.deref.ensures.value (if_ok c.dry_run-found.result _ _ (λ run tells. tells world looks text now) c.dry_run-found.ensures.tells) in
    let refuses = g.T.Tree.refuses c.dry_run-found.new.tree in
    let meets = fault_of world looks c.args.options.makefiles c.args.options.profile c.args.options.definitions.items
    c.deref.result.now c.args.environment.now c.args.options.targets c.args.options.makes_all c.args.options.goes_on refuses g.D.Disk.honest seen c.dry_run-found.result
    c.deref.ensures.value (if_err c.dry_run-found.result _ _ (λ fault meets. meets world looks text now) c.dry_run-found.ensures.fault) in
    refused_plan world looks c.args.options.makefiles c.args.options.profile c.args.options.definitions.items c.args.environment.now c.args.options.targets c.args.options.makes_all
    c.args.options.goes_on g.D.Disk.honest seen c.args.options.telling (not c.args.options.asks) c.args.options.asks
    (IsFaultOf world looks c.args.options.makefiles c.args.options.profile c.args.options.definitions.items c.args.environment.now c.args.options.targets c.args.options.makes_all
    c.args.options.goes_on refuses g.D.Disk.honest seen)
    (Rises (g.D.Disk.faults c.args.disk) (g.D.Disk.faults c.dry_run-found.new.disk)) c.say-always.result.0.is_told
    (g.O.Write.contents c.args.out.now) (g.O.Write.contents c.say-always.new.out) (g.E.Write.contents c.args.err.now)
    (g.E.Write.contents c.say-always.new.err) c.say-always.result.0.status c.say-always.result.0.is_whole c.dry_run-found.result c.say-always.result.1.items refl two told meets
    c.dry_run-found.ensures.device c.say-always.ensures.silent c.say-always.ensures.told c.say-always.ensures.found c.say-always.ensures.whole c.say-always.ensures.status c.say-always.ensures.always
    c.say-always.ensures.part c.say-always.ensures.cut c.say-always.ensures.refused

pub returns-clause-none_run : goal.returns-clause-none_run
returns-clause-none_run g c = λ stays two.
    let (world, text) = g.met.I.Includes.possible c.dry_run-found.new.includes in
    let (looks, now) = g.met.T.Tree.possible c.dry_run-found.new.tree in
    let seen = g.D.Disk.seen c.args.disk in
    let told = told_of world looks c.args.options.makefiles c.args.options.profile c.args.options.definitions.items
    c.deref.result.now c.args.environment.now c.args.options.targets c.args.options.makes_all c.args.options.goes_on g.D.Disk.honest seen
    c.args.options.telling (not c.args.options.asks) c.dry_run-found.result c.deref.ensures.value (if_ok c.dry_run-found.result _ _ (λ run tells. tells world looks text now) c.dry_run-found.ensures.tells) in
    no_run world looks c.args.options.makefiles c.args.options.profile c.args.options.definitions.items c.args.environment.now c.args.options.targets c.args.options.makes_all
    c.args.options.goes_on g.D.Disk.honest seen c.args.options.telling (not c.args.options.asks) c.args.options.asks c.say-always.result.0.status c.say-always.result.0.is_whole
    c.dry_run-found.result c.say-always.result.1.items stays two told c.say-always.ensures.found c.say-always.ensures.status c.say-always.ensures.refused
