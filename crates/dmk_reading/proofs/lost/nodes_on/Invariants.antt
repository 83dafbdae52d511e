use Rattle.dmk_reading.proofs.LostLemmas.{StandSoFar}
use Rattle.dmk_reading.proofs.lost.nodes_on.Given as goal

abbrev pub invariant-loop-node : goal.invariant-loop-node
invariant-loop-node l = StandSoFar l.graph l.nodes l.lost.items l.node-index
