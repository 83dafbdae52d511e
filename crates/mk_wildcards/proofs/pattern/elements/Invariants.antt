use Rattle.std.proofs.Common.{◌≡◌, ◌++◌, length}
use Rattle.mk_wildcards.specs.Pattern.{elements}
use Rattle.mk_wildcards.proofs.pattern.elements.Given as goal

abbrev pub invariant-loop-byte : goal.invariant-loop-byte
invariant-loop-byte l = l.found.items ++ elements l.rest ≡ elements l.pattern

abbrev pub decreases-loop-byte : goal.decreases-loop-byte
decreases-loop-byte l = length l.rest
