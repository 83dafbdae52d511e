use Rattle.std.proofs.Common.{◌∙◌, refl, ap, subst}
use Rattle.std.proofs.lemmas.Result.{IfOk-weaker, IfErr-weaker, MatchResult-weaker}
use Rattle.st_disk.specs.declared.which.Which.TheVariants as which
use Rattle.st_disk.specs.Moments.{now}
use Rattle.st_records.specs.declared.version.Form.{Form}
use Rattle.st_recovery.specs.Stored.{AllRecoverIn}
use Rattle.st_recovery.proofs.RecoversLemmas.{recovers_chosen}
use Rattle.st_recovery.proofs.StoredLemmas.{all_recover, throughout_same, possible_or_new, then_created}
use Rattle.st_recovery.proofs.OpeningLemmas.{found_by_few, created_by_few}
use Rattle.st_recovery.proofs.opening.open_in.Goals as goal

pub returns-in-Some-clause-any_moment : goal.returns-in-Some-clause-any_moment
returns-in-Some-clause-any_moment g c = λ honest.
    throughout_same (ap g.D.Disk.moments c.store_of.ensures.disk)
    (possible_or_new (g.D.Disk.seen c.args.disk which.A) (g.D.Disk.seen c.args.disk which.B) (now (g.D.Disk.moments c.args.disk)) (c.find.ensures.any_moment honest))

pub returns-in-Err-clause-any_moment_refused : goal.returns-in-Err-clause-any_moment_refused
returns-in-Err-clause-any_moment_refused g c = λ honest.
    possible_or_new (g.D.Disk.seen c.args.disk which.A) (g.D.Disk.seen c.args.disk which.B) (now (g.D.Disk.moments c.args.disk)) (c.find.ensures.any_moment honest)

pub returns-in-Some-clause-recovers : goal.returns-in-Some-clause-recovers
returns-in-Some-clause-recovers g c = λ honest.
    let told = all_recover c.store_of.result.log.side (now (g.D.Disk.moments c.store_of.result.log.disk)) (c.store_of.result.stored honest c.store_of.ensures.alive) in
    subst (λ (f : Form). AllRecoverIn f c.store_of.result.state (now (g.D.Disk.moments c.store_of.result.log.disk))) c.store_of.ensures.newest told

pub returns-in-Some-clause-found : goal.returns-in-Some-clause-found
returns-in-Some-clause-found g c = λ honest. recovers_chosen c.args.newest _ _ _ _ _ _ _ _ c.store_of.ensures.state (rw c.in-Some.is at (c.in-Ok.ensures.chosen honest))

pub returns-in-None-clause-any_moment : goal.returns-in-None-clause-any_moment
returns-in-None-clause-any_moment g c = IfOk-weaker c.open_new.result _ _
    (λ store created honest.
    let void = rw c.in-None.is at (c.in-Ok.ensures.void honest) in
    then_created (g.D.Disk.seen c.args.disk which.A) (g.D.Disk.seen c.args.disk which.B) (now (g.D.Disk.moments c.args.disk)) (c.find.ensures.any_moment honest) void.0 void.1 (created honest))
    c.open_new.ensures.any_moment

pub returns-in-None-clause-any_moment_refused : goal.returns-in-None-clause-any_moment_refused
returns-in-None-clause-any_moment_refused g c = IfErr-weaker c.open_new.result _ _
    (λ e created honest.
    let void = rw c.in-None.is at (c.in-Ok.ensures.void honest) in
    then_created (g.D.Disk.seen c.args.disk which.A) (g.D.Disk.seen c.args.disk which.B) (now (g.D.Disk.moments c.args.disk)) (c.find.ensures.any_moment honest) void.0 void.1 (created honest))
    c.open_new.ensures.any_moment_refused

-- ---- what is asked of the disk and of memory

pub returns-in-Some-clause-calls : goal.returns-in-Some-clause-calls
returns-in-Some-clause-calls g c = λ honest.
    found_by_few (g.D.Disk.seen c.args.disk which.A) (g.D.Disk.seen c.args.disk which.B) (g.D.Disk.moments c.args.disk) (g.D.Disk.moments c.find.new.disk) (g.D.Disk.moments c.store_of.result.log.disk) (c.find.ensures.calls honest)
    (ap g.D.Disk.moments c.store_of.ensures.disk)

pub returns-in-Err-clause-calls : goal.returns-in-Err-clause-calls
returns-in-Err-clause-calls g c = λ honest.
    found_by_few (g.D.Disk.seen c.args.disk which.A) (g.D.Disk.seen c.args.disk which.B) (g.D.Disk.moments c.args.disk) (g.D.Disk.moments c.find.new.disk) (g.D.Disk.moments c.find.new.disk) (c.find.ensures.calls honest) refl

pub returns-in-None-clause-calls : goal.returns-in-None-clause-calls
returns-in-None-clause-calls g c = λ honest.
    let void = rw c.in-None.is at (c.in-Ok.ensures.void honest) in
    let by_few = created_by_few (g.D.Disk.seen c.args.disk which.A) (g.D.Disk.seen c.args.disk which.B) (g.D.Disk.moments c.args.disk) (g.D.Disk.moments c.find.new.disk) in
    MatchResult-weaker c.open_new.result (c.open_new.ensures.calls honest)
    (λ store more. by_few (g.D.Disk.moments store.log.disk) (c.find.ensures.calls honest) void.0 void.1 more)
    (λ e more. by_few (g.D.Disk.moments e.1) (c.find.ensures.calls honest) void.0 void.1 more)

pub returns-in-Some-clause-success : goal.returns-in-Some-clause-success
returns-in-Some-clause-success g c = ap g.D.Disk.faults c.store_of.ensures.disk ∙ c.in-Ok.ensures.success

pub returns-in-None-clause-success : goal.returns-in-None-clause-success
returns-in-None-clause-success g c = IfOk-weaker c.open_new.result _ _ (λ store same. same ∙ c.in-Ok.ensures.success) c.open_new.ensures.success
