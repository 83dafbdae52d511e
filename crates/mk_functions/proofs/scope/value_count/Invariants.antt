use Rattle.std.proofs.Common.{◌≡◌, ◌≤◌, length, take}
use Rattle.mk_functions.specs.Scope.{value_count}
use Rattle.mk_functions.specs.Waiting.{site_at, stack_of}
use Rattle.mk_functions.proofs.scope.value_count.Given as goal

abbrev pub invariant-loop-at : goal.invariant-loop-at
invariant-loop-at l = record {
  within : l.at ≤ length l.callers;
  same : value_count (site_at (stack_of (take l.at l.callers))).scope ≡ value_count (site_at (stack_of l.callers)).scope;
}

abbrev pub decreases-loop-at : goal.decreases-loop-at
decreases-loop-at l = l.at
