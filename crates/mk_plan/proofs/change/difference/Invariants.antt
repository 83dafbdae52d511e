use Rattle.std.proofs.Common.{◌≡◌}
use Rattle.mk_plan.specs.Change.{difference}
use Rattle.mk_plan.proofs.change.difference.Given as goal

abbrev pub invariant-loop-one : goal.invariant-loop-one
invariant-loop-one l = difference l.one-iterator l.others ≡ difference l.fn.was l.fn.is
