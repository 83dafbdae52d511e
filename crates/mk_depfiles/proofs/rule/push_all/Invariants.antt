use Rattle.std.proofs.Common.{◌≡◌, ◌++◌}
use Rattle.mk_depfiles.proofs.rule.push_all.Given as goal

abbrev pub invariant-loop-name : goal.invariant-loop-name
invariant-loop-name l = l.names ++ l.name-iterator ≡ l.initial.names ++ l.fn.added
