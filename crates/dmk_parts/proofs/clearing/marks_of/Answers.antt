use Rattle.std.proofs.Common.{◌≡◌, ◌∙◌, ◌≤◌, ℕ, Bool, List, [], ◌∷◌, ◌++◌, Some, slice_get, arith, inl, inr, sym, ap, subst}
use Rattle.std.proofs.lemmas.Option.{slice_get_within}
use Rattle.mk_names.specs.Names.{name_at}
use Rattle.bd_flusher.proofs.ListLemmas.{at-push, at-push_last}
use Rattle.dmk_parts.specs.Behind.{is_cleared_by}
use Rattle.dmk_parts.proofs.BehindLemmas.{earlier_or_this}
use Rattle.dmk_parts.proofs.clearing.marks_of.Goals as goal

pub loop-node-preserved : goal.loop-node-preserved
loop-node-preserved c =
    let graph = c.args.graph.now in
    let node = c.loop-node.node in
    let marks = c.loop-node.marks.items in
    let mark = c.has_nothing_to_run-mark.result in
    let pushed = c.in_ok-push.ensures.items in record {
      count = omega (arith, c.in_ok-push.ensures.len, c.loop-node.invariant.count);
      marked = λ n it below is. ap (λ (more : List Bool). slice_get more n) pushed ∙ elim (earlier_or_this n node below) [
        | inl earlier ↦ at-push marks mark n _ (c.loop-node.invariant.marked n it earlier is)
        | inr this ↦
            let own : mark ≡ is_cleared_by c.args.built.now c.args.unmade.now c.args.filed.now c.args.moved.now (name_at graph.names n) n it =
            subst (λ (k : ℕ). slice_get graph.nodes.items k ≡ Some it → mark ≡ is_cleared_by c.args.built.now c.args.unmade.now c.args.filed.now c.args.moved.now (name_at graph.names k) k it)
            (sym this) (c.has_nothing_to_run-mark.ensures it) is in
            ap (slice_get (marks ++ mark ∷ [])) (this ∙ sym c.loop-node.invariant.count) ∙ at-push_last marks mark ∙ ap Some own
      ];
    }

pub returns-clause-marks : goal.returns-clause-marks
returns-clause-marks c = λ n it is.
    let inside = slice_get_within c.args.graph.now.nodes.items n it is in
    let over = subst (λ k. k ≤ c.loop-node.node) c.len-node-end.ensures c.loop-node-test.false in
    c.loop-node.invariant.marked n it (omega (arith, inside, over)) is
