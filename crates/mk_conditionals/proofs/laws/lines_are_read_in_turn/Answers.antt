use Rattle.mk_conditionals.proofs.MachineLemmas.{in_turn}
use Rattle.mk_conditionals.proofs.laws.lines_are_read_in_turn.Goals as goal

pub returns : goal.returns
returns g c = λ holds one nest world lines. in_turn g.R.Reading.after holds one lines nest world
