use Rattle.bd_steps.proofs.OtherLemmas.{flushes_among_others}
use Rattle.bd_steps.proofs.laws.others_dont_hinder_in.Goals as goal

pub returns : goal.returns
returns g c = flushes_among_others (Unit {0}) g.D.Disk.honest g.D.Disk.moments g.D.Disk.seen g.D.Disk.faults
