use Rattle.std.proofs.Common.{◌≡◌, ◌||◌, ◌&&◌, ℕ, length, nat_lt, take}
use Rattle.mk_graph.specs.Edges.{has}
use Rattle.mk_plan.specs.Nodes.{is_marked}
use Rattle.dmk_reading.proofs.lost.mark_all.Given as goal

abbrev pub invariant-loop-node : goal.invariant-loop-node
invariant-loop-node l = record {
  count : length l.lost.items ≡ length l.fn.lost.items;
  marks : (n : ℕ) → is_marked l.lost.items n ≡ (is_marked l.fn.lost.items n || (has (take l.node-index l.nodes) n && nat_lt n (length l.fn.lost.items)));
}
