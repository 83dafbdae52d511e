use Rattle.std.proofs.Common.{◌≡◌, ◌++◌, length}
use Rattle.mk_eval.specs.Short.{unquoted}
use Rattle.mk_eval.proofs.short.push_unquoted.Given as goal

abbrev pub invariant-loop-byte : goal.invariant-loop-byte
invariant-loop-byte l = l.line.items ++ unquoted l.rest ≡ l.initial.line.items ++ unquoted l.name

abbrev pub decreases-loop-byte : goal.decreases-loop-byte
decreases-loop-byte l = length l.rest
