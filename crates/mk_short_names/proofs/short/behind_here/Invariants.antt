use Rattle.std.proofs.Common.{◌≡◌, length}
use Rattle.mk_short_names.specs.Short.{behind_here}
use Rattle.mk_short_names.proofs.short.behind_here.Given as goal

abbrev pub invariant-loop-left : goal.invariant-loop-left
invariant-loop-left l = behind_here l.left ≡ behind_here l.rest

abbrev pub decreases-loop-left : goal.decreases-loop-left
decreases-loop-left l = length l.left
