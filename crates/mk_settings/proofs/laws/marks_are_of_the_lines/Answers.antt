use Rattle.mk_settings.proofs.MarkLemmas.{marks_decide}
use Rattle.mk_settings.proofs.laws.marks_are_of_the_lines.Goals as goal

pub returns : goal.returns
returns c = marks_decide
