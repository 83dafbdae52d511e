use Rattle.mk_depfiles.proofs.ToldLemmas.{told_names}
use Rattle.mk_depfiles.proofs.laws.an_answer.Goals as goal

pub returns : goal.returns
returns c = λ text. told_names text
