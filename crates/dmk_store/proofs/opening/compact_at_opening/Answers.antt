use Rattle.st_disk.specs.Moments.{now}
use Rattle.st_disk.proofs.MomentLaws.{started}
use Rattle.st_recovery.proofs.StoredLemmas.{all_recover}
use Rattle.dmk_store.proofs.opening.compact_at_opening.Goals as goal

-- no call of the device
pub returns-then-is_compact-clause-any_moment : goal.returns-then-is_compact-clause-any_moment
returns-then-is_compact-clause-any_moment g c = λ honest.
    let store = c.args.store.now in
    let moments = g.D.Disk.moments store.log.disk in
    started moments (all_recover store.log.side (now moments) (store.stored honest c.requires))
