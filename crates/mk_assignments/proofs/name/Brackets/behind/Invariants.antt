use Rattle.std.proofs.Common.{◌≡◌, ◌+◌, ◌≤◌, length}
use Rattle.mk_assignments.specs.Reading.{within, behind_name}
use Rattle.mk_assignments.proofs.name.Brackets.behind.Given as goal

abbrev pub invariant-loop-byte : goal.invariant-loop-byte
invariant-loop-byte l = (l.depth + length l.rest ≤ length l.text) × (behind_name (within l.self l.depth) l.rest ≡ behind_name (within l.self 0) l.text)

abbrev pub decreases-loop-byte : goal.decreases-loop-byte
decreases-loop-byte l = length l.rest
