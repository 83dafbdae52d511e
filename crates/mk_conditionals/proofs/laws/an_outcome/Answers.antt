use Rattle.mk_conditionals.proofs.LineLemmas.{lines_some}
use Rattle.mk_conditionals.proofs.laws.an_outcome.Goals as goal

pub returns : goal.returns
returns g c = λ a_test a_front nest world lines.
    lines_some g.R.Reading.after g.R.Reading.comes_to g.R.Reading.gives a_test a_front lines nest world
