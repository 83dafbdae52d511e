use Rattle.dmk_dry.proofs.FaultLemmas.{pair_refused}
use Rattle.dmk_dry.proofs.recovered.recovered.Goals as goal

pub returns-clause-refused : goal.returns-clause-refused
returns-clause-refused g c = λ honest. pair_refused c.args.newest (g.D.Disk.seen c.args.disk.now) c.recover_from_in.result (c.recover_from_in.ensures.refused honest)
