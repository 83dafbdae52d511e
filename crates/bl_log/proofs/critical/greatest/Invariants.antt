use Rattle.std.proofs.Common.{ℕ, ◌<◌, ◌≤◌, length, get_or}
use Rattle.bl_log.proofs.critical.greatest.Given as goal

abbrev pub invariant-loop-other : goal.invariant-loop-other
invariant-loop-other l = record {
  within : l.place < length l.sums;
  greatest : (k : ℕ) → k < l.other → get_or l.sums k 0 ≤ get_or l.sums l.place 0;
}
