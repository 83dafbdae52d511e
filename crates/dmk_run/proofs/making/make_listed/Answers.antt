use Rattle.std.proofs.Common.{sym, subst}
use Rattle.st_disk.specs.Moments.{now}
use Rattle.st_state.specs.State.{StateMap}
use Rattle.st_recovery.specs.Recovers.{IsMadeOf}
use Rattle.st_recovery.specs.Stored.{IsStoredOnIn}
use Rattle.mk_rule_lines.proofs.ResultLemmas.{if_ok}
use Rattle.dmk_parts.specs.Tried.{tried_in}
use Rattle.dmk_run.proofs.DriverLemmas.{has_made, status_of_report, never_parted}
use Rattle.dmk_run.proofs.making.make_listed.Goals as goal

pub returns-clause-made : goal.returns-clause-made
returns-clause-made g c =
    rw c.disk_of-2.ensures
    (has_made c.args.plan.conduct.form c.args.plan.graph c.args.plan.conduct.counts_records c.args.plan.conduct.keeps_state g.D.Disk.honest (now (g.D.Disk.moments c.build-found.result.store.log.disk))
    (tried_in c.came_to-came_to.result.1) c.build-found.result.found c.came_to-came_to.result.0 c.came_to-came_to.ensures.status c.build-found.ensures.ends
    c.build-found.ensures.well c.build-found.ensures.same c.build-found.ensures.borne_out c.build-found.ensures.made)

pub returns-clause-status : goal.returns-clause-status
returns-clause-status g c = status_of_report c.args.plan.graph.unmade.items c.build-found.result.found c.came_to-came_to.result.0
    (if_ok c.came_to-came_to.result.0 _ _ (λ s told. (told.0, told.1, told.2)) c.came_to-came_to.ensures.status) c.build-found.ensures.status

-- the store is put together again, with an equal state
pub invariant_of-store-clause-stored : goal.invariant_of-store-clause-stored
invariant_of-store-clause-stored g c = λ honest alive.
    let log = c.args.log in
    subst (λ (m : StateMap). IsStoredOnIn c.args.plan.conduct.form (g.D.Disk.seen log.disk) (now (g.D.Disk.moments log.disk)) log.side log.form log.generation log.end m)
    (sym c.in-Ok.ensures) (c.requires.stored honest alive)

pub invariant_of-store-clause-made : goal.invariant_of-store-clause-made
invariant_of-store-clause-made g c = subst (λ (m : StateMap). ∥ IsMadeOf c.args.log.form m ∥₁) (sym c.in-Ok.ensures) c.requires.recorded

pub returns-clause-parted : goal.returns-clause-parted
returns-clause-parted g c = never_parted c.came_to-came_to.result.0 _ c.came_to-came_to.ensures.begun
