use Rattle.std.proofs.Common.{◌≡◌, ◌++◌}
use Rattle.mk_plan.specs.Change.{beside}
use Rattle.mk_plan.proofs.change.not_in.Given as goal

abbrev pub invariant-loop-name : goal.invariant-loop-name
invariant-loop-name l = l.left ++ beside l.table l.name-iterator ≡ beside l.table l.names
