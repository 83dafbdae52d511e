use Rattle.std.proofs.Common.{◌≡◌, ℕ, ◌||◌, length, map, take}
use Rattle.mk_graph.specs.Edges.{row, has}
use Rattle.mk_graph.specs.Waits.{BeginWith, all_of, waits}
use Rattle.mk_graph.proofs.waiting.add_waits.Given as goal

abbrev pub invariant-loop-group : goal.invariant-loop-group
invariant-loop-group l = record {
  nodes : length l.rows.items ≡ length l.fn.rows.items;
  before : l.before.items ≡ all_of (take l.group-index (map (λ r. r.items) l.groups));
  members : (n m : ℕ) → has (row (map (λ r. r.items) l.rows.items) n) m
      ≡ (has (row (map (λ r. r.items) l.fn.rows.items) n) m || waits (take l.group-index (map (λ r. r.items) l.groups)) n m);
  begin : BeginWith (map (λ r. r.items) l.fn.rows.items) (map (λ r. r.items) l.rows.items);
}
