use Rattle.std.proofs.Common.{◌≡◌, ℕ, ◌<◌, ◌≤◌, ◌∷◌, take, slice_index, sum}
use Rattle.mk_graph.specs.Users.{ends_from}
use Rattle.mk_graph.proofs.users.starts_of.Given as goal

abbrev pub invariant-loop-row : goal.invariant-loop-row
invariant-loop-row l = record {
  before : (n : ℕ) → n < l.row → slice_index l.lengths n ≡ slice_index (0 ∷ ends_from 0 l.fn.lengths) n;
  behind : (n : ℕ) → l.row ≤ n → slice_index l.lengths n ≡ slice_index l.fn.lengths n;
  start : l.start ≡ sum (take l.row l.fn.lengths);
}
