use Rattle.std.proofs.Common.{Bool, List, get_or, subst, ◌∙◌}
use Rattle.std.proofs.lemmas.Option.{slice_get-get_or}
use Rattle.dmk_run.specs.Judged.{remade_by, IsJudged}
use Rattle.dmk_run.proofs.JudgingLemmas.{none_before, one_more, all_of_them}
use Rattle.dmk_run.proofs.judging.are_judged.Goals as goal

pub loop-node-init : goal.loop-node-init
loop-node-init c = none_before (IsJudged c.args.keeping c.args.graph.now (remade_by c.args.ends.now c.args.same.now)) c.args.ends.now

pub loop-node-preserved : goal.loop-node-preserved
loop-node-preserved c =
    let ends = c.args.ends.now in
    let node = c.loop-node.node in
    let end = get_or ends node _ in
    one_more (IsJudged c.args.keeping c.args.graph.now (remade_by ends c.args.same.now)) ends node end
    (slice_get-get_or ends node _ c.loop-node-test.true)
    (subst (λ (marks : List Bool). IsJudged c.args.keeping c.args.graph.now marks node end) (c.deref.ensures.value ∙ c.in_ok-marks.ensures) (c.in_ok-is_judged.ensures c.if-not-branch.false))
    c.loop-node.invariant

pub returns : goal.returns
returns c = λ yes.
    all_of_them (IsJudged c.args.keeping c.args.graph.now (remade_by c.args.ends.now c.args.same.now)) c.args.ends.now c.loop-node.node c.loop-node-test.false c.loop-node.invariant
