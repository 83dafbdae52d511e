use Rattle.std.proofs.Common.{ℕ, ◌<◌, ◌≤◌}
use Rattle.mk_graph.specs.Edges.{row, times}
use Rattle.board_rows.proofs.sets.are_sets.Given as goal

abbrev pub invariant-loop-node : goal.invariant-loop-node
invariant-loop-node l = (u : ℕ) → u < l.node → (n : ℕ) → times n (row l.edges u) ≤ 1
