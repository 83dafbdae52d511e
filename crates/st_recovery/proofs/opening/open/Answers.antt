use Rattle.std.proofs.Common.{◌∙◌, sym, ap, subst}
use Rattle.st_disk.specs.declared.which.Which.TheVariants as which
use Rattle.st_disk.specs.Moments.{Moments, now}
use Rattle.st_state.specs.State.{StateMap}
use Rattle.st_recovery.specs.Recovers.{Recovers}
use Rattle.st_recovery.specs.Stored.{AreFewCalls}
use Rattle.st_recovery.proofs.StoredLemmas.{all_recover}
use Rattle.st_recovery.proofs.opening.open.Goals as goal

pub returns-in-Ok-clause-found : goal.returns-in-Ok-clause-found
returns-in-Ok-clause-found g c = λ honest.
    subst (λ (m : StateMap). Recovers (g.D.Disk.seen c.args.disk which.A) (g.D.Disk.seen c.args.disk which.B) m) (sym c.by_version.ensures.state) (c.in-Ok.ensures.found honest)

pub returns-in-Ok-clause-recovers : goal.returns-in-Ok-clause-recovers
returns-in-Ok-clause-recovers g c = λ honest.
    all_recover c.by_version.result.log.side (now (g.D.Disk.moments c.by_version.result.log.disk)) (c.by_version.result.stored honest (c.by_version.ensures.dead ∙ c.in-Ok.ensures.alive))

pub returns-in-Ok-clause-calls : goal.returns-in-Ok-clause-calls
returns-in-Ok-clause-calls g c = λ honest.
    subst (λ (m : Moments). AreFewCalls (g.D.Disk.seen c.args.disk which.A) (g.D.Disk.seen c.args.disk which.B) (g.D.Disk.moments c.args.disk) m) (sym (ap g.D.Disk.moments c.by_version.ensures.disk)) (c.in-Ok.ensures.calls honest)
