use Rattle.std.proofs.Common.{◌≡◌, ◌++◌, length}
use Rattle.mk_eval.specs.Static.{doubled}
use Rattle.mk_eval.proofs.doubled.doubled.Given as goal

abbrev pub invariant-loop-byte : goal.invariant-loop-byte
invariant-loop-byte l = l.out.items ++ doubled l.rest ≡ doubled l.text

abbrev pub decreases-loop-byte : goal.decreases-loop-byte
decreases-loop-byte l = length l.rest
