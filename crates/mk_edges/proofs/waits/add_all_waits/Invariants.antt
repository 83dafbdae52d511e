use Rattle.std.proofs.Common.{◌≡◌, ◌<◌, ◌||◌, ℕ, length, map, take, true}
use Rattle.std.specs.List.{list_any}
use Rattle.mk_graph.specs.Edges.{row, is_closed, has as has_number}
use Rattle.mk_names.specs.Names.{name_at}
use Rattle.mk_graph.specs.Waits.{BeginWith}
use Rattle.mk_nodes.specs.Waits.{line_orders}
use Rattle.mk_edges.proofs.waits.add_all_waits.Given as goal

abbrev pub invariant-loop-line : goal.invariant-loop-line
invariant-loop-line l = record {
  nodes : length l.rows.items ≡ length l.fn.rows.items;
  members : (n m : ℕ) → n < length l.names → m < length l.names → has_number (row (map (λ r. r.items) l.rows.items) n) m
      ≡ (has_number (row (map (λ r. r.items) l.fn.rows.items) n) m
      || list_any (line_orders l.names l.suffixes (name_at l.names m) (name_at l.names n)) (take l.line-index l.lines));
  closed : is_closed (map (λ r. r.items) l.fn.rows.items) ≡ true → is_closed (map (λ r. r.items) l.rows.items) ≡ true;
  begin : BeginWith (map (λ r. r.items) l.fn.rows.items) (map (λ r. r.items) l.rows.items);
}
