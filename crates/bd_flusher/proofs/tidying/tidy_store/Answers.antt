use Rattle.st_disk.proofs.MomentLaws.{started}
use Rattle.bd_flusher.proofs.tidying.tidy_store.Goals as goal

-- no call of the device
pub returns-then-not-is_long-clause-any_moment : goal.returns-then-not-is_long-clause-any_moment
returns-then-not-is_long-clause-any_moment g c honest alive =
    let store = c.args.store.now in
    started (g.D.Disk.moments (g.S.AnyStore.parts_of store).disk) (g.met.S.AnyStore.recovers store honest alive)
