use Rattle.std.proofs.Common.{◌≡◌, length}
use Rattle.mk_eval.specs.Short.{has_quoted}
use Rattle.mk_eval.proofs.short.has_quoted.Given as goal

abbrev pub invariant-loop-byte : goal.invariant-loop-byte
invariant-loop-byte l = has_quoted l.rest ≡ has_quoted l.text

abbrev pub decreases-loop-byte : goal.decreases-loop-byte
decreases-loop-byte l = length l.rest
