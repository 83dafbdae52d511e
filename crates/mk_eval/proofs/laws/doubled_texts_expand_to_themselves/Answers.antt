use Rattle.mk_eval.proofs.DoubledLemmas.{doubled_expands}
use Rattle.mk_eval.proofs.laws.doubled_texts_expand_to_themselves.Goals as goal

pub returns : goal.returns
returns c = doubled_expands
