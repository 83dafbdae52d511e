use Rattle.std.proofs.Common.{◌≡◌, ℕ, ◌&&◌, ◌||◌, length, map, take}
use Rattle.mk_graph.specs.Edges.{row, has}
use Rattle.mk_graph.specs.Waits.{BeginWith}
use Rattle.mk_graph.proofs.waiting.add_to_rows.Given as goal

abbrev pub invariant-loop-node : goal.invariant-loop-node
invariant-loop-node l = record {
  nodes : length l.rows.items ≡ length l.fn.rows.items;
  members : (n m : ℕ) → has (row (map (λ r. r.items) l.rows.items) n) m
      ≡ (has (row (map (λ r. r.items) l.fn.rows.items) n) m || (has (take l.node-index l.nodes) n && has l.prerequisites m));
  begin : BeginWith (map (λ r. r.items) l.fn.rows.items) (map (λ r. r.items) l.rows.items);
}
