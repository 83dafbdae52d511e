use Rattle.std.proofs.Common.{◌≡◌, length}
use Rattle.jb_flags.specs.Told.{base_from}
use Rattle.jb_flags.proofs.told.base_of.Given as goal

abbrev pub invariant-loop-byte : goal.invariant-loop-byte
invariant-loop-byte l = base_from l.base l.rest ≡ base_from l.fn.path l.fn.path

abbrev pub decreases-loop-byte : goal.decreases-loop-byte
decreases-loop-byte l = length l.rest
