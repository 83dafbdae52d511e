use Rattle.std.proofs.Common.{◌≡◌, ◌++◌}
use Rattle.mk_statements.specs.Cut.{backslashes}
use Rattle.mk_statements.proofs.cut.push_backslashes.Given as goal

abbrev pub invariant-loop-left : goal.invariant-loop-left
invariant-loop-left l = l.text.items ++ backslashes l.left ≡ l.initial.text.items ++ backslashes l.count

abbrev pub decreases-loop-left : goal.decreases-loop-left
decreases-loop-left l = l.left
