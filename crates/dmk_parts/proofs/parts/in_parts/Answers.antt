use Rattle.std.proofs.Common.{◌≡◌, ◌≢◌, ◌⊎◌, inl, inr, sym, subst, [], arith, rules}
use Rattle.std.proofs.lemmas.Grind.{common_steps}
use Rattle.dmk_parts.specs.Parts.{AreParts}
use Rattle.dmk_parts.proofs.PartLemmas.{AreCut, no_items, part_ended, last_cut}
use Rattle.dmk_parts.proofs.parts.in_parts.Goals.{else-is_empty-via-then-is_empty+else-not-is_empty, else-is_empty-via-else-is_empty}
use Rattle.dmk_parts.proofs.parts.in_parts.Goals as goal

pub loop-goal-preserved-then-next : goal.loop-goal-preserved-then-next
loop-goal-preserved-then-next c =
    part_ended c.args.goals.now c.loop-goal.goal-iterator c.next.new.self c.in-Some.goal.now c.loop-goal.parts.items c.push-in-Some-true.new.self.items c.loop-goal.part
    c.push.new.self c.empty-part-in-Some-true.result c.in-Some.ensures.steps c.in_ok-push.ensures.ok c.in_ok-push-2.ensures.items c.empty-part-in-Some-true.ensures
    c.loop-goal.invariant

-- the last goals are a part
pub returns : goal.returns
returns c =
    let either : (c.loop-goal.part ≢ []) ⊎ (c.loop-goal.parts.items ≡ []) = elim c.else-is_empty.branch [
      | else-is_empty-via-then-is_empty+else-not-is_empty w ↦ inr (no_items c.loop-goal.parts.items (grind (arith, common_steps, w.if-not-is_empty.false, w.is_empty-then-is_empty.ensures)))
      | else-is_empty-via-else-is_empty w ↦ inl (search rules)
    ] in
    subst (AreParts c.args.goals.now) (sym c.in_ok-push-3.ensures.items)
    (last_cut c.args.goals.now c.loop-goal.parts.items c.loop-goal.part either
    (subst (λ left. AreCut c.args.goals.now left c.loop-goal.parts.items c.loop-goal.part) (c.in-None.ensures.steps).0 c.loop-goal.invariant))
