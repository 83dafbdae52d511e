use Rattle.std.proofs.Common.{◌≡◌, ◌-◌, length}
use Rattle.mk_functions.specs.Scope.{padded}
use Rattle.mk_functions.specs.Shown.{texts}
use Rattle.mk_functions.proofs.calls.padded.Given as goal

abbrev pub invariant-loop-alloc : goal.invariant-loop-alloc
invariant-loop-alloc l = padded l.count (texts l.values.items) ≡ padded l.count (texts l.initial.values.items)

abbrev pub decreases-loop-alloc : goal.decreases-loop-alloc
decreases-loop-alloc l = l.count - length l.values.items
