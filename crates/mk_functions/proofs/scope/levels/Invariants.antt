use Rattle.std.proofs.Common.{◌≡◌, take}
use Rattle.mk_functions.specs.Waiting.{site_at, stack_of}
use Rattle.mk_functions.proofs.scope.levels.Given as goal

abbrev pub invariant-loop-caller : goal.invariant-loop-caller
invariant-loop-caller l = l.levels ≡ (site_at (stack_of (take l.caller-index l.callers))).levels
