use Rattle.std.proofs.Common.{ℕ, ◌<◌}
use Rattle.std.specs.List.Sorted.{IsStrictlyIncreasing}
use Rattle.mk_graph.specs.Edges.{row}
use Rattle.mk_graph.proofs.edges.Edges.ascends.Given as goal

abbrev pub invariant-loop-node : goal.invariant-loop-node
invariant-loop-node l = (n : ℕ) → n < l.node → IsStrictlyIncreasing (row l.self n)
