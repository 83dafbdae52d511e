use Rattle.std.proofs.Common.{◌≡◌, length}
use Rattle.mk_wildcards.specs.Pattern.{names_class}
use Rattle.mk_wildcards.proofs.pattern.names_class.Given as goal

abbrev pub invariant-loop-byte : goal.invariant-loop-byte
invariant-loop-byte l = names_class l.rest ≡ names_class l.members

abbrev pub decreases-loop-byte : goal.decreases-loop-byte
decreases-loop-byte l = length l.rest
