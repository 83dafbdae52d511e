use Rattle.std.proofs.Common.{◌≡◌, ◌++◌}
use Rattle.mk_plan.proofs.change.push_all.Given as goal

abbrev pub invariant-loop-text : goal.invariant-loop-text
invariant-loop-text l = l.texts ++ l.text-iterator ≡ l.fn.texts ++ l.fn.more
