use Rattle.std.proofs.Common.{◌∙◌, ◌+◌, ◌<◌, ◌≤◌, ℕ, List, [], ◌∷◌, ◌++◌, sym, ap, subst}
use Rattle.dmk_parts.proofs.BehindLemmas.{AreFailedSoFar, failed_more, failed_less, failed_all}
use Rattle.dmk_parts.proofs.made.failed_in.Goals.{then-is_failed+in_ok-push, else-is_failed}
use Rattle.dmk_parts.proofs.made.failed_in.Goals as goal

pub loop-node-preserved : goal.loop-node-preserved
loop-node-preserved c =
    let graph = c.args.graph.now in
    let ends = c.args.ends.now in
    let n = c.loop-node.node in
    let names = c.loop-node.failed in
    elim c.if-is_failed.branch [
      | then-is_failed+in_ok-push w ↦
          let (status, failed) = c.is_failed.ensures.yes w.if-is_failed.true in
          subst (AreFailedSoFar graph ends (n + 1)) (sym (w.failed-is ∙ w.in_ok-push.ensures.ok ∙ ap (λ (one : List ℕ). names ++ one ∷ []) w.name_of.ensures))
          (failed_more graph ends n names c.loop-node.invariant status (subst (λ k. n < k) c.len-node-end.ensures c.loop-node-test.true) failed)
      | else-is_failed w ↦
          subst (AreFailedSoFar graph ends (n + 1)) (sym w.failed-is)
          (failed_less graph ends n names c.loop-node.invariant (c.is_failed.ensures.no w.if-is_failed.false))
    ]

pub returns : goal.returns
returns c =
    failed_all c.args.graph.now c.args.ends.now c.loop-node.node c.loop-node.failed
    (subst (λ k. k ≤ c.loop-node.node) c.len-node-end.ensures c.loop-node-test.false) c.loop-node.invariant
