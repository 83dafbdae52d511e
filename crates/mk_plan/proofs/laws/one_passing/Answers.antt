use Rattle.mk_plan.proofs.SameLemmas.{passes_once}
use Rattle.mk_plan.proofs.laws.one_passing.Goals as goal

pub returns : goal.returns
returns c = λ keeping graph marks n p q a b h k. passes_once keeping graph marks n p q a b h k
