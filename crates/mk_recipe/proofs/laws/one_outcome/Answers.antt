use Rattle.mk_recipe.proofs.OutcomeLemmas.{same_outcome}
use Rattle.mk_recipe.proofs.laws.one_outcome.Goals as goal

pub returns : goal.returns
returns c = λ ignore lines a b h k. same_outcome ignore lines a b h k
