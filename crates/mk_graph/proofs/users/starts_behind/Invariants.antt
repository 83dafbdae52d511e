use Rattle.std.proofs.Common.{◌≡◌, ℕ, ◌<◌, ◌≤◌, ◌∷◌, slice_index}
use Rattle.mk_graph.proofs.users.starts_behind.Given as goal

abbrev pub invariant-loop-row : goal.invariant-loop-row
invariant-loop-row l = record {
  before : (n : ℕ) → n < l.row → slice_index l.ends n ≡ slice_index (0 ∷ l.fn.ends) n;
  behind : (n : ℕ) → l.row ≤ n → slice_index l.ends n ≡ slice_index l.fn.ends n;
  start : l.start ≡ slice_index (0 ∷ l.fn.ends) l.row;
}
