use Rattle.st_recovery.proofs.RecoversLemmas.{same_fault}
use Rattle.st_recovery.proofs.recovery.state_of.Goals as goal

pub returns-in-Err-clause-memory : goal.returns-in-Err-clause-memory
returns-in-Err-clause-memory c = λ e. c.in-Err.ensures.memory (same_fault c.in-Err.fault _ e)
