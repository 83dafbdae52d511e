use Rattle.mk_functions.proofs.OutcomeLemmas.{same_outcome}
use Rattle.mk_functions.proofs.laws.one_outcome.Goals as goal

pub returns : goal.returns
returns c = λ w variables text a b x y. same_outcome w variables x y
