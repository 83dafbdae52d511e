use Rattle.std.proofs.Common.{◌≡◌, ℕ, ◌<◌, true, false, slice_index_or}
use Rattle.mk_graph.proofs.cycles.first_unmarked.Given as goal

abbrev pub invariant-loop-node : goal.invariant-loop-node
invariant-loop-node l = (q : ℕ) → q < l.node → slice_index_or l.marks q false ≡ true
