use Rattle.std.proofs.Common.{◌≡◌, ◌≤◌, length, take, bytes_eq}
use Rattle.std.specs.List.{list_any}
use Rattle.mk_functions.specs.Waiting.{site_at, stack_of}
use Rattle.mk_functions.proofs.scope.is_opened.Given as goal

abbrev pub invariant-loop-at : goal.invariant-loop-at
invariant-loop-at l = record {
  within : l.at ≤ length l.callers;
  same : list_any (bytes_eq l.name) (site_at (stack_of (take l.at l.callers))).opened ≡ list_any (bytes_eq l.name) (site_at (stack_of l.callers)).opened;
}

abbrev pub decreases-loop-at : goal.decreases-loop-at
decreases-loop-at l = l.at
