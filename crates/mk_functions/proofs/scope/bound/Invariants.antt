use Rattle.std.proofs.Common.{◌≡◌, ◌≤◌, length, take}
use Rattle.mk_functions.specs.Scope.{bound_in}
use Rattle.mk_functions.specs.Waiting.{site_at, stack_of}
use Rattle.mk_functions.proofs.scope.bound.Given as goal

abbrev pub invariant-loop-at : goal.invariant-loop-at
invariant-loop-at l = record {
  within : l.at ≤ length l.callers;
  same : bound_in l.name (site_at (stack_of (take l.at l.callers))).scope ≡ bound_in l.name (site_at (stack_of l.callers)).scope;
}

abbrev pub decreases-loop-at : goal.decreases-loop-at
decreases-loop-at l = l.at
