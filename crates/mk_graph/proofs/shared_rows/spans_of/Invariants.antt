use Rattle.std.proofs.Common.{◌≡◌, ℕ, ◌∷◌, List, length, get_or, take, vec_len, vec_capacity}
use Rattle.byte_strings.specs.Pieces.{pieces, AreEnds}
use Rattle.mk_graph.specs.Spans.{rows_at, AreWithin}
use Rattle.mk_graph.proofs.shared_rows.spans_of.Given as goal

abbrev pub invariant-loop-end : goal.invariant-loop-end
invariant-loop-end l = record {
  rows : (numbers : List ℕ) → rows_at numbers l.spans.items ≡ pieces numbers 0 (take l.end-index l.ends);
  within : (size : ℕ) → AreEnds size 0 l.ends → AreWithin size l.spans.items;
  start : l.start ≡ get_or (0 ∷ l.ends) l.end-index 0;
  count : vec_len l.spans ≡ l.end-index;
  room : vec_capacity l.spans ≡ length l.ends;
}
