use Rattle.std.proofs.Common.{subst}
use Rattle.mk_lines.specs.Spelling.{IsTextOf}
use Rattle.mk_lines.proofs.TextOfLemmas.{text_said, text_back}
use Rattle.mk_lines.proofs.laws.lines_are_joined.Goals as goal

pub returns : goal.returns
returns c = λ recipe wide group text. ((λ e. subst (IsTextOf recipe wide group) e (text_said recipe wide group)), text_back recipe wide group text)
