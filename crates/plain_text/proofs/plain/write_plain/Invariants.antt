use Rattle.std.proofs.Common.{◌+◌, ◌≤◌, length}
use Rattle.plain_text.proofs.plain.write_plain.Given as goal

abbrev pub invariant-loop-byte : goal.invariant-loop-byte
invariant-loop-byte g l = l.begin + length l.rest ≤ length l.text

abbrev pub decreases-loop-byte : goal.decreases-loop-byte
decreases-loop-byte g l = length l.rest
