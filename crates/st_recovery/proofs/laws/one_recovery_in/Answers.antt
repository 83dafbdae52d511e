use Rattle.st_recovery.proofs.RecoversLemmas.{one_recovery_in}
use Rattle.st_recovery.proofs.laws.one_recovery_in.Goals as goal

pub returns : goal.returns
returns c = one_recovery_in
