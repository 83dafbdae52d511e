use Rattle.std.proofs.Common.{◌≡◌, ◌++◌}
use Rattle.mk_plan.specs.Telling.{lines_for}
use Rattle.mk_plan.proofs.telling.push_each.Given as goal

abbrev pub invariant-loop-text : goal.invariant-loop-text
invariant-loop-text l = l.told ++ lines_for l.target l.label l.text-iterator ≡ l.fn.told ++ lines_for l.target l.label l.texts
