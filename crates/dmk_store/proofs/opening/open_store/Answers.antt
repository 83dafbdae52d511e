use Rattle.std.proofs.Common.{◌∙◌, sym, subst}
use Rattle.st_disk.specs.declared.which.Which.TheVariants as which
use Rattle.st_disk.specs.Moments.{now, Throughout}
use Rattle.st_records.specs.declared.version.Form.{Form}
use Rattle.st_state.specs.State.{StateMap}
use Rattle.st_recovery.specs.Recovers.{RecoversIn}
use Rattle.st_recovery.specs.Stored.{AllRecoverIn}
use Rattle.st_recovery.proofs.StoredLemmas.{all_recover}
use Rattle.dmk_store.specs.Opened.{StandsInOlder}
use Rattle.dmk_store.proofs.OpeningLemmas.{opened_as_before, opened_so, then_compacted, told_not_compacted}
use Rattle.dmk_store.proofs.opening.open_store.Goals as goal

pub returns-in-Err-clause-any_moment_refused : goal.returns-in-Err-clause-any_moment_refused
returns-in-Err-clause-any_moment_refused g c = λ honest.
    opened_so c.args.newest (g.D.Disk.seen c.args.disk) (now (g.D.Disk.moments c.args.disk)) (c.in-Err.ensures.any_moment_refused honest)

pub returns-in-Ok-compact_at_opening-clause-any_moment : goal.returns-in-Ok-compact_at_opening-clause-any_moment
returns-in-Ok-compact_at_opening-clause-any_moment g c = λ honest.
    let opened = c.in-Ok.store in
    let compacted = subst (λ (f : Form). Throughout (g.D.Disk.moments opened.log.disk) (g.D.Disk.moments c.compact_at_opening.new.store.log.disk) (AllRecoverIn f opened.state))
    c.in-Ok.ensures.newest (c.compact_at_opening.ensures.any_moment honest) in
    then_compacted c.args.newest (g.D.Disk.seen c.args.disk) (now (g.D.Disk.moments c.args.disk)) opened.state (c.in-Ok.ensures.any_moment honest) (c.in-Ok.ensures.found honest)
    compacted

pub returns-in-Ok-compact_at_opening-clause-found : goal.returns-in-Ok-compact_at_opening-clause-found
returns-in-Ok-compact_at_opening-clause-found g c = λ honest.
    let seen = g.D.Disk.seen c.args.disk in
    subst (λ (m : StateMap). RecoversIn c.args.newest (seen which.A) (seen which.B) m) (sym c.compact_at_opening.ensures.state) (c.in-Ok.ensures.found honest)

pub returns-in-Ok-compact_at_opening-clause-recovers : goal.returns-in-Ok-compact_at_opening-clause-recovers
returns-in-Ok-compact_at_opening-clause-recovers g c = λ honest.
    let store = c.compact_at_opening.new.store in
    let sides = now (g.D.Disk.moments store.log.disk) in
    subst (λ (f : Form). AllRecoverIn f store.state sides) (c.compact_at_opening.ensures.newest ∙ c.in-Ok.ensures.newest)
    (all_recover store.log.side sides (store.stored honest c.in-Ok-compact_at_opening.ensures.alive))

pub returns-in-Ok-compact_at_opening-clause-as_before : goal.returns-in-Ok-compact_at_opening-clause-as_before
returns-in-Ok-compact_at_opening-clause-as_before g c =
    let seen = g.D.Disk.seen c.args.disk in
    let store = c.compact_at_opening.new.store in
    let sides = now (g.D.Disk.moments store.log.disk) in
    opened_as_before c.args.newest g.D.Disk.honest seen (g.D.Disk.seen store.log.disk) sides store.state
    (λ honest. subst (λ (m : StateMap). RecoversIn c.args.newest (seen which.A) (seen which.B) m) (sym c.compact_at_opening.ensures.state) (c.in-Ok.ensures.found honest))
    (λ honest. subst (λ (f : Form). AllRecoverIn f store.state sides) (c.compact_at_opening.ensures.newest ∙ c.in-Ok.ensures.newest)
    (all_recover store.log.side sides (store.stored honest c.in-Ok-compact_at_opening.ensures.alive)))
    (λ honest side. g.met.D.Disk.seen_is_image store.log.disk honest side)

pub returns-in-Err-compact_at_opening-clause-any_moment_refused : goal.returns-in-Err-compact_at_opening-clause-any_moment_refused
returns-in-Err-compact_at_opening-clause-any_moment_refused g c = λ honest.
    let opened = c.in-Ok.store in
    let compacted = subst (λ (f : Form). Throughout (g.D.Disk.moments opened.log.disk) (g.D.Disk.moments c.compact_at_opening.new.store.log.disk) (AllRecoverIn f opened.state))
    c.in-Ok.ensures.newest (c.compact_at_opening.ensures.any_moment honest) in
    rw c.disk_of_store.ensures
    (then_compacted c.args.newest (g.D.Disk.seen c.args.disk) (now (g.D.Disk.moments c.args.disk)) opened.state (c.in-Ok.ensures.any_moment honest) (c.in-Ok.ensures.found honest)
    compacted)

pub returns-in-Err-compact_at_opening-clause-refused : goal.returns-in-Err-compact_at_opening-clause-refused
returns-in-Err-compact_at_opening-clause-refused g c =
    let seen = g.D.Disk.seen c.args.disk in
    let store = c.compact_at_opening.new.store in
    let older = λ (f : Form). StandsInOlder f (g.D.Disk.seen store.log.disk) (now (g.D.Disk.moments store.log.disk)) store.state in
    rw c.disk_of_store.ensures
    (told_not_compacted c.in-Err-compact_at_opening.fault
    (λ stands honest. (
      store.state,
      subst (λ (m : StateMap). RecoversIn c.args.newest (seen which.A) (seen which.B) m) (sym c.compact_at_opening.ensures.state) (c.in-Ok.ensures.found honest),
      subst older c.in-Ok.ensures.newest (stands honest),
    ))
    c.in-Err-compact_at_opening.ensures.refused)
