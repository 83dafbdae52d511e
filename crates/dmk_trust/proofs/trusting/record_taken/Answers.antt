use Rattle.st_disk.specs.Moments.{now}
use Rattle.st_disk.proofs.MomentLaws.{started}
use Rattle.st_recovery.proofs.StoredLemmas.{all_recover}
use Rattle.dmk_trust.proofs.TakingLemmas.{taken_good, taken_stand}
use Rattle.dmk_trust.proofs.TrustingLemmas.{batch_taken, none_taken}
use Rattle.dmk_trust.proofs.trusting.record_taken.Goals as goal

-- no call of the device
pub returns-in_err-records-clause-any_moment : goal.returns-in_err-records-clause-any_moment
returns-in_err-records-clause-any_moment g c = λ honest.
    let store = c.args.store.now in
    let moments = g.D.Disk.moments store.log.disk in
    none_taken c.args.store.now.newest c.args.graph.now store.state (started moments (all_recover store.log.side (now moments) (store.stored honest c.requires.alive)))

pub commit-requires-clause-good : goal.commit-requires-clause-good
commit-requires-clause-good g c = rw c.deref.ensures.value (taken_good c.in_ok-records.ensures.taken)

pub commit-requires-clause-later : goal.commit-requires-clause-later
commit-requires-clause-later g c = rw c.deref.ensures.value (taken_stand c.in_ok-records.ensures.taken)

pub returns-in-Ok-clause-any_moment : goal.returns-in-Ok-clause-any_moment
returns-in-Ok-clause-any_moment g c = λ honest.
    batch_taken c.args.store.now.newest c.args.graph.now c.args.store.now.state c.in_ok-records.records.items c.in_ok-records.ensures.taken
    (rw c.deref.ensures.value at (c.commit.ensures.any_moment honest c.requires.alive))

pub returns-clause-any_moment : goal.returns-clause-any_moment
returns-clause-any_moment g c = λ honest.
    batch_taken c.args.store.now.newest c.args.graph.now c.args.store.now.state c.in_ok-records.records.items c.in_ok-records.ensures.taken
    (rw c.deref.ensures.value at (c.commit.ensures.any_moment honest c.requires.alive))
