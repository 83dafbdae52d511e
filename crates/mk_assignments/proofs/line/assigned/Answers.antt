use Rattle.std.proofs.Common.{sym, subst}
use Rattle.mk_assignments.specs.Line.{no_modifiers, Assigns}
use Rattle.mk_assignments.specs.Steps.{assigned_at}
use Rattle.mk_assignments.proofs.StepLemmas.{goes_on, shorter, last}
use Rattle.mk_assignments.proofs.line.assigned.Goals as goal

pub loop-modifier-smaller : goal.loop-modifier-smaller
loop-modifier-smaller c = shorter c.loop-modifier.rest.now c.in-Some.modifier c.in-Some.behind.now c.in-Some.ensures

pub loop-modifier-preserved : goal.loop-modifier-preserved
loop-modifier-preserved c = λ told is.
    c.loop-modifier.invariant told
    (goes_on c.loop-modifier.rest.now c.in-Some.modifier c.in-Some.behind.now c.loop-modifier.modifiers told c.in-Some.ensures
    (subst (λ m. Assigns m c.in-Some.behind.now told) c.and-modifiers.ensures is))

pub returns : goal.returns
returns c =
    subst (λ o. Assigns no_modifiers c.args.text.now o) (sym c.assigned_at.ensures)
    (c.loop-modifier.invariant (assigned_at c.loop-modifier.modifiers c.loop-modifier.rest.now)
    (last c.loop-modifier.modifiers c.loop-modifier.rest.now c.in_default.ensures))
