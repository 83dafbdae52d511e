use Rattle.mk_recipe.proofs.RecordedLemmas.{same_records}
use Rattle.mk_recipe.proofs.laws.one_record.Goals as goal

pub returns : goal.returns
returns c = λ lines a b h k. same_records lines a b h k
