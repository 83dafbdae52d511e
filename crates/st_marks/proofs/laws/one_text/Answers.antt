use Rattle.std.proofs.Common.{sym, ◌∙◌}
use Rattle.st_marks.proofs.TextLemmas.{same_said}
use Rattle.st_marks.proofs.laws.one_text.Goals as goal

pub returns-clause-says : goal.returns-clause-says
returns-clause-says c = λ source other marks others text a b. same_said source other marks others text a b

pub returns-clause-spelled : goal.returns-clause-spelled
returns-clause-spelled c = λ source marks text other a b. a.text_is ∙ sym b.text_is
