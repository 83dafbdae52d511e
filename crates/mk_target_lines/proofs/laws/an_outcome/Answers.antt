use Rattle.mk_target_lines.proofs.LawLemmas.{comes_some}
use Rattle.mk_target_lines.proofs.laws.an_outcome.Goals as goal

pub returns : goal.returns
returns c = λ w variables listed recursive recipe text. comes_some w variables (c.an_outcome.ensures w variables listed recursive) recipe text
