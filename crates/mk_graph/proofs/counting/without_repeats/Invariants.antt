use Rattle.std.proofs.Common.{take}
use Rattle.mk_graph.specs.Counted.{AreSets}
use Rattle.mk_graph.proofs.counting.without_repeats.Given as goal

abbrev pub invariant-loop-node : goal.invariant-loop-node
invariant-loop-node l = AreSets (take l.node l.rows) l.sets
