use Rattle.std.proofs.Common.{◌-◌, ◌≤◌, length}
use Rattle.st_file.proofs.from_disk.zeros.Given as goal

abbrev pub invariant-loop-block : goal.invariant-loop-block
invariant-loop-block l = length l.bytes.items ≤ l.len

abbrev pub decreases-loop-block : goal.decreases-loop-block
decreases-loop-block l = l.len - length l.bytes.items
