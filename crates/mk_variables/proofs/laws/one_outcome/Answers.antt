use Rattle.mk_variables.specs.Table.{variables_in}
use Rattle.mk_variables.proofs.LawLemmas.{takes_once}
use Rattle.mk_variables.proofs.laws.one_outcome.Goals as goal

pub returns : goal.returns
returns c = λ w table said lines one other x y. takes_once w table (c.one_outcome.ensures w (variables_in table)) said lines x y
