use Rattle.std.proofs.Common.{◌≡◌, ℕ, ◌<◌, ◌≤◌, length, get_or}
use Rattle.st_memory.specs.PowerCut.{open_below, cut_byte}
use Rattle.st_memory.proofs.power_cut.cut_bytes.Given as goal

abbrev pub invariant-loop-place : goal.invariant-loop-place
invariant-loop-place l = record {
  long : length l.bytes.items ≡ l.place;
  count : l.filled ≡ open_below l.synced l.ranges l.place;
  few : l.filled ≤ l.place;
  each : (k : ℕ) → k < l.place → get_or l.bytes.items k 0 ≡ cut_byte l.synced l.ranges l.fill k;
}
