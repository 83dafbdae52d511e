use Rattle.std.proofs.Common.{subst}
use Rattle.st_disk.specs.Moments.{now}
use Rattle.st_disk.proofs.MomentLaws.{started}
use Rattle.st_recovery.proofs.StoredLemmas.{all_recover}
use Rattle.dmk_levels.specs.Known.{AreKnown, IsAsked}
use Rattle.dmk_taking.proofs.TakingLemmas.{batch_known, without_calls}
use Rattle.dmk_taking.proofs.storing.take_over.Goals as goal

-- no call of the device
pub returns-then-ne-clause-any_moment : goal.returns-then-ne-clause-any_moment
returns-then-ne-clause-any_moment g c = λ honest world looks reads tells read.
    let store = c.args.store.now in
    let asked = c.args.asked.now in
    let moments = g.D.Disk.moments store.log.disk in
    without_calls store.newest (IsAsked world looks asked.options.now asked.environment.now) asked.levels.now store.state
    (started moments (all_recover store.log.side (now moments) (store.stored honest c.requires)))

pub returns-then-ne-clause-recovers : goal.returns-then-ne-clause-recovers
returns-then-ne-clause-recovers g c = λ honest.
    let store = c.args.store.now in
    all_recover store.log.side (now (g.D.Disk.moments store.log.disk)) (store.stored honest c.requires)

pub returns-in_default-clause-any_moment : goal.returns-in_default-clause-any_moment
returns-in_default-clause-any_moment g c = λ honest world looks reads tells read.
    let store = c.args.store.now in
    let asked = c.args.asked.now in
    let moments = g.D.Disk.moments store.log.disk in
    without_calls store.newest (IsAsked world looks asked.options.now asked.environment.now) asked.levels.now store.state
    (started moments (all_recover store.log.side (now moments) (store.stored honest c.requires)))

pub returns-in_default-clause-recovers : goal.returns-in_default-clause-recovers
returns-in_default-clause-recovers g c = λ honest.
    let store = c.args.store.now in
    all_recover store.log.side (now (g.D.Disk.moments store.log.disk)) (store.stored honest c.requires)

-- a batch of what is known
pub returns-in-Ok-commit-clause-any_moment : goal.returns-in-Ok-commit-clause-any_moment
returns-in-Ok-commit-clause-any_moment g c = λ honest world looks reads tells read.
    let store = c.args.store.now in
    let asked = c.args.asked.now in
    let wanted = IsAsked world looks asked.options.now asked.environment.now in
    let records = c.in-Ok.records.items in
    batch_known store.newest wanted asked.levels.now store.state records
    (subst (λ m. AreKnown wanted asked.levels.now m records) c.state.ensures (c.in-Ok.ensures.known world looks reads tells read))
    (rw c.deref.ensures.value at (c.commit.ensures.any_moment honest c.requires))

pub returns-in-Err-clause-any_moment : goal.returns-in-Err-clause-any_moment
returns-in-Err-clause-any_moment g c = λ honest world looks reads tells read.
    let store = c.args.store.now in
    let asked = c.args.asked.now in
    let wanted = IsAsked world looks asked.options.now asked.environment.now in
    let records = c.in-Ok.records.items in
    batch_known store.newest wanted asked.levels.now store.state records
    (subst (λ m. AreKnown wanted asked.levels.now m records) c.state.ensures (c.in-Ok.ensures.known world looks reads tells read))
    (rw c.deref.ensures.value at (c.commit.ensures.any_moment honest c.requires))
