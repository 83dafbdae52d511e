use Rattle.st_file.specs.declared.fault.OpenFault.TheVariants as open_faults
use Rattle.mk_rule_lines.proofs.ResultLemmas.{if_ok, if_err}
use Rattle.dmk_reading.specs.Definitions.{first_defined}
use Rattle.dmk_reading.specs.Faults.{IsTextFault}
use Rattle.dmk_dry.specs.Faults.{IsPlanFault}
use Rattle.dmk_reading.specs.Planned.{AreItems}
use Rattle.dmk_dry.proofs.FaultLemmas.{plan_fault, no_state}
use Rattle.dmk_dry.proofs.planning.dry_run.Goals as goal

pub returns-clause-tells : goal.returns-clause-tells
returns-clause-tells g c =
    if_ok c.plan_items.result _ _
    (λ run tells world looks text now. (c.in_ok-items.items.items, c.in_ok-items.ensures.items world looks text (c.plan_items.ensures.looks looks now), tells looks now))
    c.plan_items.ensures.tells

pub returns-clause-fault : goal.returns-clause-fault
returns-clause-fault g c =
    let refuses = g.T.Tree.refuses c.plan_items.new.tree in
    let named = c.args.given.makefiles.now in
    let given = first_defined c.args.given.profile c.args.given.definitions.now c.args.given.environment.now in
    if_err c.plan_items.result _ _
    (λ f meets world looks text now.
    plan_fault (IsTextFault world looks refuses named given) (AreItems world looks named given)
    (IsPlanFault c.args.given.profile c.args.given.definitions.now c.args.given.environment.now c.args.targets c.args.given.makes_all c.args.given.goes_on looks refuses g.D.Disk.honest (g.D.Disk.seen c.args.disk.now))
    c.in_ok-items.items.items (c.in_ok-items.ensures.items world looks text (c.plan_items.ensures.looks looks now)) f (meets looks now)
    (λ no. no) (λ f no. no) (λ no. no))
    c.plan_items.ensures.fault

pub returns-in_err-items-clause-device : goal.returns-in_err-items-clause-device
returns-in_err-items-clause-device g c = λ is.
    let (world, text) = g.met.I.Includes.possible c.items_of.new.includes in
    let (looks, now) = g.met.T.Tree.possible c.items_of.new.tree in
    let given = first_defined c.args.given.profile c.args.given.definitions.now c.args.given.environment.now in
    absurd (no_state (IsTextFault world looks (g.T.Tree.refuses c.items_of.new.tree) c.args.given.makefiles.now given) c.from_residual.result c.in_err-items.field-0.0
    open_faults.Device (c.from_residual.ensures).1 (c.in_err-items.ensures.fault world looks text now) (λ none. none) is)
