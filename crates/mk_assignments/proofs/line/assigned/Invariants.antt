use Rattle.std.proofs.Common.{Option, length}
use Rattle.mk_assignments.specs.Line.{Said, no_modifiers, Assigns}
use Rattle.mk_assignments.proofs.line.assigned.Given as goal

abbrev pub invariant-loop-modifier : goal.invariant-loop-modifier
invariant-loop-modifier l = (told : Option Said) → Assigns l.modifiers l.rest told → Assigns no_modifiers l.text told

abbrev pub decreases-loop-modifier : goal.decreases-loop-modifier
decreases-loop-modifier l = length l.rest
