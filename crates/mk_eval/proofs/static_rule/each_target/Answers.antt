use Rattle.std.proofs.lemmas.Result.{err_from_is_err_and}
use Rattle.std.proofs.Common.{◌∷◌, [], refl}
use Rattle.byte_strings.specs.Blanks.{words}
use Rattle.mk_eval.specs.Makefile.{unmoved, TargetItems, EachTarget}
use Rattle.mk_eval.proofs.BehindLemmas.{loose_more}
use Rattle.mk_eval.proofs.MakefileLemmas.{item_fault, reach_fault, reach_more, reach_end}
use Rattle.mk_eval.proofs.static_rule.each_target.Goals as goal

pub returns-in_err-target_item-clause-items : goal.returns-in_err-target_item-clause-items
returns-in_err-target_item-clause-items c =
    let p = err_from_is_err_and c.from_residual.result c.from_residual.ensures.1 in
    let patterns = words c.args.prerequisites.now in
    let all = words c.args.targets.now in
    let told = item_fault c.in_err-target_item.field-0.0 (TargetItems c.args.rule.now c.args.pattern.now patterns c.in-Some.target.now) (EachTarget c.args.rule.now c.args.pattern.now patterns all)
    c.in_err-target_item.ensures.item
    (λ fault h. reach_fault unmoved (λ _. TargetItems c.args.rule.now c.args.pattern.now patterns) tt all tt c.loop-target.items.items _ _ c.in-Some.target.now fault c.loop-target.invariant.gathered c.in-Some.ensures.word h) in
    rw (p.1, p.2) told

pub loop-target-preserved : goal.loop-target-preserved
loop-target-preserved c =
    let now = c.loop-target in
    let one = c.in_ok-target_item.field-0 in
    record {
      gathered = reach_more unmoved (λ _. TargetItems c.args.rule.now c.args.pattern.now (words c.args.prerequisites.now)) tt (words c.args.targets.now) tt tt now.items.items _ (one ∷ []) _ _ c.in-Some.target.now
          now.invariant.gathered c.in-Some.ensures.word c.in_ok-target_item.ensures.item refl c.in_ok-push.ensures.items;
      loose = λ given. loose_more given now.items.items _ one c.in_ok-target_item.ensures.loose (now.invariant.loose given) c.in_ok-push.ensures.items;
    }

pub returns-clause-items : goal.returns-clause-items
returns-clause-items c =
    reach_end unmoved (λ _. TargetItems c.args.rule.now c.args.pattern.now (words c.args.prerequisites.now)) tt (words c.args.targets.now) tt c.loop-target.items.items _ c.loop-target.invariant.gathered c.in_default.ensures.word
