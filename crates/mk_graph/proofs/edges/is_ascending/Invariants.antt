use Rattle.std.proofs.Common.{◌≡◌, ℕ, ◌+◌, ◌<◌, slice_index}
use Rattle.mk_graph.proofs.edges.is_ascending.Given as goal

abbrev pub invariant-loop-place : goal.invariant-loop-place
invariant-loop-place l = record {
  rising : (k : ℕ) → k + 1 < l.place → slice_index l.numbers k < slice_index l.numbers (k + 1);
  last : (k : ℕ) → k + 1 ≡ l.place → l.last ≡ slice_index l.numbers k;
}
