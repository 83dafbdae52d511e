use Rattle.std.proofs.Common.{◌≡◌, ℕ, ◌<◌, false, length, take, slice_index_or}
use Rattle.mk_graph.specs.Edges.{has}
use Rattle.mk_graph.proofs.cycles.marks.Given as goal

abbrev pub invariant-loop-node : goal.invariant-loop-node
invariant-loop-node l = record {
  len : length l.marks.items ≡ l.nodes;
  marked : (q : ℕ) → q < l.nodes → slice_index_or l.marks.items q false ≡ has (take l.node-index l.fn.marked) q;
}
