use Rattle.std.proofs.Common.{◌≡◌, length, take, vec_len, vec_capacity}
use Rattle.mk_graph.specs.Parts.{fronts, backs}
use Rattle.mk_graph.specs.Spans.{rows_at, AreWithin}
use Rattle.mk_graph.proofs.shared_rows.SharedRows.parted.Given as goal

abbrev pub invariant-loop-node : goal.invariant-loop-node
invariant-loop-node l = record {
  fronts : rows_at l.self-inside.numbers.value.items l.fronts.items ≡ take l.node (fronts l.counts l.self);
  fronts_within : AreWithin (length l.self-inside.numbers.value.items) l.fronts.items;
  fronts_count : vec_len l.fronts ≡ l.node;
  fronts_room : vec_capacity l.fronts ≡ length l.counts;
  backs : rows_at l.self-inside.numbers.value.items l.backs.items ≡ take l.node (backs l.counts l.self);
  backs_within : AreWithin (length l.self-inside.numbers.value.items) l.backs.items;
  backs_count : vec_len l.backs ≡ l.node;
  backs_room : vec_capacity l.backs ≡ length l.counts;
}
