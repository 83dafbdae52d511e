use Rattle.std.proofs.Common.{arith}
use Rattle.st_state.specs.Ranks.{number_from}
use Rattle.st_state.proofs.name_order.first_eight.Goals as goal

pub returns : goal.returns
unfolding number_from
returns c = omega arith
