use Rattle.st_recovery.proofs.RecoversLemmas.{IfSome-one, never_of_a_device}
use Rattle.st_recovery.proofs.recovery.recover_in.Goals as goal

pub returns-clause-only : goal.returns-clause-only
returns-clause-only c = IfSome-one _ _ _ _ c.state_of.ensures.found

pub returns-clause-device : goal.returns-clause-device
returns-clause-device c = never_of_a_device _ _ _ _ c.state_of.ensures.found
