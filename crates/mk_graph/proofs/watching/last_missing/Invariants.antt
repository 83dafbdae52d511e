use Rattle.std.proofs.Common.{◌≡◌, ℕ, ◌<◌, ◌≤◌, true, slice_index}
use Rattle.mk_graph.specs.Watching.{is_passed}
use Rattle.mk_graph.proofs.watching.last_missing.Given as goal

abbrev pub invariant-loop-place : goal.invariant-loop-place
invariant-loop-place l = record {
  within : l.place ≤ l.end;
  behind : (k : ℕ) → l.place ≤ k → k < l.end → is_passed l.passed (slice_index l.row k) ≡ true;
}

abbrev pub decreases-loop-place : goal.decreases-loop-place
decreases-loop-place l = l.place
