use Rattle.std.proofs.Common.{flat_map, ap, ◌∙◌}
use Rattle.mk_wildcards.specs.Found.{found, parts}
use Rattle.mk_eval.proofs.ListedLemmas.{step_further}
use Rattle.mk_eval.proofs.listed.found.Goals as goal

pub loop-part-preserved : goal.loop-part-preserved
loop-part-preserved g c = record {
  found = λ world allowed.
      ap (flat_map (λ way. found world.folders way (parts c.in-Some.rest.now))) (c.in_ok-ways.ensures.ways world allowed)
      ∙ step_further world.folders c.loop-part.left.now c.in-Some.part.now c.in-Some.rest.now c.loop-part.ways c.in-Some.ensures.part
      ∙ c.loop-part.invariant.found world (c.step.ensures.grows world allowed);
  grows = λ world allowed. c.loop-part.invariant.grows world (c.step.ensures.grows world allowed);
}
