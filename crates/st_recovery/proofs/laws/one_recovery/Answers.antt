use Rattle.st_recovery.proofs.RecoversLemmas.{one_recovery}
use Rattle.st_recovery.proofs.laws.one_recovery.Goals as goal

pub returns : goal.returns
returns c = one_recovery
