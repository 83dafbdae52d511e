use Rattle.std.proofs.Common.{◌≡◌, length, map, take, vec_len, vec_capacity}
use Rattle.mk_edges.proofs.rows.hard_counts.Given as goal

abbrev pub invariant-loop-found : goal.invariant-loop-found
invariant-loop-found l = record {
  so_far : l.counts.items ≡ map (λ k. k.hard) (take l.found-index l.known);
  count : vec_len l.counts ≡ l.found-index;
  room : vec_capacity l.counts ≡ length l.known;
}
