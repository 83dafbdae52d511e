use Rattle.st_disk.specs.Moments.{now}
use Rattle.st_recovery.proofs.StoredLemmas.{all_recover}
use Rattle.st_recovery.proofs.store_in.StoreIn.is_dead.Goals as goal

pub returns-clause-recovers : goal.returns-clause-recovers
returns-clause-recovers g c = λ honest alive.
    all_recover c.args.self.now.log.side (now (g.D.Disk.moments c.args.self.now.log.disk)) (c.args.self.now.stored honest alive)
