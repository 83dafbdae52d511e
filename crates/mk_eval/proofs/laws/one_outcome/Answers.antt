use Rattle.mk_eval.proofs.OutcomeLemmas.{text_one}
use Rattle.mk_eval.proofs.laws.one_outcome.Goals as goal

pub returns : goal.returns
returns c = text_one
