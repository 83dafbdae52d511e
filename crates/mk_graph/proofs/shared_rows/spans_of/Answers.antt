use Rattle.std.proofs.Common.{◌≡◌, suc, ◌+◌, ◌∷◌, get_or, sym, ap, ◌∙◌, subst, refl, arith}
use Rattle.mk_graph.specs.Spans.{rows_at, AreWithin}
use Rattle.mk_graph.proofs.SpanLemmas.{AreWithin-push, spans_more, span_within}
use Rattle.mk_graph.proofs.shared_rows.spans_of.Goals as goal

pub loop-end-preserved : goal.loop-end-preserved
loop-end-preserved c =
    let ends = c.args.ends.now in
    let spans = c.loop-end.spans.items in
    let next : suc c.loop-end.end-index ≡ c.loop-end.end-index + 1 = omega arith in
    let pushed = c.push_reserved.ensures.items in
    record {
      rows = λ numbers. ap (rows_at numbers) pushed ∙ spans_more numbers ends spans c.loop-end.end-index _ (omega arith) c.loop-end.invariant.start refl (c.loop-end.invariant.rows numbers);
      within = λ size are. subst (AreWithin size) (sym pushed) (AreWithin-push size spans _ (c.loop-end.invariant.within size are) (span_within size ends c.loop-end.end-index _ are (omega arith) c.loop-end.invariant.start refl));
      start = ap (λ k. get_or (0 ∷ ends) k 0) next;
      count = omega arith;
      room = omega arith;
    }
