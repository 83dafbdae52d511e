use Rattle.bd_lists.proofs.InTurnLemmas.{in_turn}
use Rattle.bd_lists.proofs.laws.each_in_turn_in.Goals as goal

pub returns : goal.returns
returns c = in_turn
