use Rattle.std.proofs.Common.{◌≡◌, true, length}
use Rattle.st_answers.specs.Cleaning.{has_up}
use Rattle.st_answers.proofs.leaving.has_up.Given as goal

abbrev pub invariant-loop-byte : goal.invariant-loop-byte
invariant-loop-byte l = has_up l.begins l.rest ≡ has_up true l.fn.path

abbrev pub decreases-loop-byte : goal.decreases-loop-byte
decreases-loop-byte l = length l.rest
