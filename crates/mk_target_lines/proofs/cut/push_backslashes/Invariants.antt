use Rattle.std.proofs.Common.{◌≡◌, ◌++◌}
use Rattle.mk_target_lines.specs.Cut.{backslashes}
use Rattle.mk_target_lines.proofs.cut.push_backslashes.Given as goal

abbrev pub invariant-loop : goal.invariant-loop
invariant-loop l = l.out.items ≡ l.initial.out.items ++ backslashes l.counter
