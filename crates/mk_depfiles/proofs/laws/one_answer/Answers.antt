use Rattle.std.proofs.Common.{sym, ◌∙◌}
use Rattle.mk_depfiles.proofs.ToldLemmas.{names_told}
use Rattle.mk_depfiles.proofs.laws.one_answer.Goals as goal

pub returns : goal.returns
returns c = λ text one other p q. sym (names_told text one p) ∙ names_told text other q
