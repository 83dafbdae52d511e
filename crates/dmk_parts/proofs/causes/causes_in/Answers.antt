use Rattle.std.proofs.Common.{◌≡◌, ◌∙◌, ◌+◌, ◌≤◌, ℕ, Bool, List, false, Some, Vec, Global, slice_get, replicate, arith, sym, ap, subst}
use Rattle.std.proofs.lemmas.Option.{slice_get_within}
use Rattle.mk_nodes.specs.declared.graph.Node.{Node}
use Rattle.dmk_reading.specs.Passing.{no_marks}
use Rattle.dmk_parts.specs.Behind.{IsCause}
use Rattle.dmk_parts.proofs.BehindLemmas.{AreCausesSoFar, cause_more, cause_less}
use Rattle.dmk_parts.proofs.causes.causes_in.Goals.{then-branch+in_ok-push, else-branch}
use Rattle.dmk_parts.proofs.causes.causes_in.Goals as goal

pub loop-node-preserved : goal.loop-node-preserved
loop-node-preserved c =
    let graph = c.args.graph.now in
    let built = c.args.known.now in
    let counting = c.args.counting in
    let n = c.loop-node.node in
    let causes = c.loop-node.causes.items in
    let none : c.deref.result.now ≡ no_marks graph =
    c.deref.ensures.value ∙ c.in_ok-none.ensures.items_if_clones_equal (λ y e. e) ∙ ap (λ (count : ℕ). replicate count false) c.len.ensures in
    let found : (it : Node) → slice_get graph.nodes.items n ≡ Some it → IsCause built counting graph (no_marks graph) n it c.in_ok-is_cause.field-0 =
    subst (λ (marks : List Bool). (it : Node) → slice_get graph.nodes.items n ≡ Some it → IsCause built counting graph marks n it c.in_ok-is_cause.field-0) none c.in_ok-is_cause.ensures in
    elim c.if-branch.branch [
      | then-branch+in_ok-push w ↦
          subst (λ (more : List ℕ). AreCausesSoFar built counting graph more (n + 1)) (sym (ap (λ (v : Vec ℕ Global). v.items) w.causes-is ∙ w.in_ok-push.ensures.items))
          (cause_more built counting graph causes n c.loop-node.invariant
          (λ it is. subst (λ (yes : Bool). IsCause built counting graph (no_marks graph) n it yes) w.if-branch.true (found it is)))
      | else-branch w ↦
          subst (λ (more : List ℕ). AreCausesSoFar built counting graph more (n + 1)) (sym (ap (λ (v : Vec ℕ Global). v.items) w.causes-is))
          (cause_less built counting graph causes n c.loop-node.invariant
          (λ it is. subst (λ (yes : Bool). IsCause built counting graph (no_marks graph) n it yes) w.if-branch.false (found it is)))
    ]

pub returns : goal.returns
returns c = λ n it is.
    let inside = slice_get_within c.args.graph.now.nodes.items n it is in
    let over = subst (λ k. k ≤ c.loop-node.node) c.len-node-end.ensures c.loop-node-test.false in
    c.loop-node.invariant.0 n it (omega (arith, inside, over)) is
