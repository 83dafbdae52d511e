use Rattle.std.proofs.Common.{◌≡◌, length}
use Rattle.mk_assignments.specs.Reading.{outside, behind_name}
use Rattle.mk_assignments.proofs.name.behind_name.Given as goal

abbrev pub invariant-loop-byte : goal.invariant-loop-byte
invariant-loop-byte l = behind_name outside l.rest ≡ behind_name outside l.text

abbrev pub decreases-loop-byte : goal.decreases-loop-byte
decreases-loop-byte l = length l.rest
