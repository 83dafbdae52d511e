use Rattle.std.proofs.Common.{[], ◌∙◌, ◌+◌, ◌<◌, ◌≤◌, ap, inl, inr, length, refl, subst, sym, true≢false, arith}
use Rattle.mk_names.specs.Names.{all_added}
use Rattle.st_answers.specs.Graph.{prerequisites_of}
use Rattle.st_answers.proofs.ReachedLemmas.{AreReached, AreReached-start, AreReached-more, AreReached-end}
use Rattle.st_answers.proofs.drawing.names_drawn.Goals as goal
use Rattle.st_answers.proofs.drawing.names_drawn.Goals.{then-loop-looked_at-test+else-goes_on, else-loop-looked_at-test}

pub loop-looked_at-init : goal.loop-looked_at-init
loop-looked_at-init c =
    AreReached-start (prerequisites_of c.args.state.now c.args.extent.hidden c.args.extent.source) c.args.starts.now c.args.extent.depth c.mention_all.new.names
    (c.in_ok-mention_all.ensures ∙ ap (λ l. all_added l c.iter.result) c.new-names.ensures ∙ ap (all_added []) c.iter.ensures)

pub loop-looked_at-preserved : goal.loop-looked_at-preserved
loop-looked_at-preserved c =
    let of = prerequisites_of c.args.state.now c.args.extent.hidden c.args.extent.source in
    let some : c.loop-looked_at.looked_at < length c.loop-looked_at.names = omega arith in
    subst (λ n. AreReached of c.args.starts.now c.args.extent.depth c.mention_prerequisites.new.names n (c.loop-looked_at.edges + 1)) (sym c.len-end.ensures)
    (AreReached-more of c.args.starts.now c.args.extent.depth c.loop-looked_at.names c.loop-looked_at.looked_at c.loop-looked_at.edges c.loop-looked_at.invariant
    c.mention_prerequisites.new.names c.in_ok-mention_prerequisites.ensures some (c.if-goes_on.ensures.0 refl))

pub returns : goal.returns
returns c =
    let of = prerequisites_of c.args.state.now c.args.extent.hidden c.args.extent.source in
    AreReached-end of c.args.starts.now c.args.extent.depth c.loop-looked_at.names c.loop-looked_at.looked_at c.loop-looked_at.edges c.loop-looked_at.invariant
    (elim c.loop-looked_at-test.branch [
      | then-loop-looked_at-test+else-goes_on w ↦ inr (λ deeper. true≢false (sym (w.if-goes_on.ensures.1 deeper)))
      | else-loop-looked_at-test w ↦ let past : length c.loop-looked_at.names ≤ c.loop-looked_at.looked_at = omega arith in inl past
    ])
