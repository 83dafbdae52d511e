use Rattle.std.proofs.Common.{◌≡◌, ◌++◌}
use Rattle.mk_depfiles.specs.Words.{backslashes}
use Rattle.mk_depfiles.proofs.gathering.push_backslashes.Given as goal

abbrev pub invariant-loop : goal.invariant-loop
invariant-loop l = l.out.items ≡ l.initial.out.items ++ backslashes l.counter
