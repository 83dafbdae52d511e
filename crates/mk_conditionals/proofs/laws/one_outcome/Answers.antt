use Rattle.mk_conditionals.proofs.LineLemmas.{lines_once}
use Rattle.mk_conditionals.proofs.laws.one_outcome.Goals as goal

pub returns : goal.returns
returns g c = λ one_test one_front nest world lines one other x y.
    lines_once g.R.Reading.after g.R.Reading.comes_to g.R.Reading.gives one_test one_front lines nest world one other x y
