use Rattle.std.proofs.Common.{subst}
use Rattle.mk_lines.specs.Spelling.{AreLines, AreGroups}
use Rattle.mk_lines.proofs.SpellingLemmas.{spelled}
use Rattle.mk_lines.proofs.SplitLemmas.{lines_are, lines_are_back, groups_are, groups_are_back}
use Rattle.mk_lines.proofs.laws.text_is_its_lines.Goals as goal

pub returns : goal.returns
returns c = record {
  spelled = spelled;
  lines = λ text lines. ((λ e. subst (AreLines text) e (lines_are text)), lines_are_back text lines);
  groups = λ text parts. ((λ e. subst (AreGroups text) e (groups_are text)), groups_are_back text parts);
}
