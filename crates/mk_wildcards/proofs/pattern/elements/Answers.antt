use Rattle.mk_wildcards.proofs.PatternLemmas.{element_more}
use Rattle.mk_wildcards.proofs.pattern.elements.Goals as goal

pub loop-byte-preserved : goal.loop-byte-preserved
loop-byte-preserved c =
    element_more c.loop-byte.found.items _ c.in_ok-element.element c.in-Some.byte.now c.loop-byte.rest.now c.in-Some.behind.now c.in_ok-element.after.now c.args.pattern.now
    c.in-Some.ensures.cases.0 c.loop-byte.invariant c.in_ok-element.ensures.element c.in_ok-element.ensures.rest c.in_ok-push.ensures.items
