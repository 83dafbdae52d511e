use Rattle.std.proofs.Common.{◌≡◌, ◌∙◌, ◌+◌, ◌-◌, ◌≤◌, ℕ, List, length, get_or, ap, subst, sym, arith}
use Rattle.std.specs.Prelude.{MatchOption}
use Rattle.mk_graph.specs.Edges.{row}
use Rattle.bl_log.specs.Spans.{begin_of, end_of, time_of}
use Rattle.bl_log.specs.Reached.{IsLast, AreReached}
use Rattle.bl_log.proofs.SpanLemmas.{begin_at, end_at, time_at}
use Rattle.bl_log.proofs.CriticalLemmas.{IsBefore, as_before, sums_to, reached_more}
use Rattle.bl_log.proofs.critical.reached.Goals as goal

pub loop-number-preserved : goal.loop-number-preserved
loop-number-preserved c =
    let spans = c.args.spans.now in
    let rows = c.args.prerequisites.now in
    let n = c.loop-number.number in
    let sums = c.loop-number.sums.items in
    let last = c.last_before-last.result in
    let before = c.sum_before-before.result in
    let sum = c.sum_with-sum.result in
    let span = c.index-spans-number.result in
    let begins : begin_of spans n ≡ span.begin = begin_at spans n span c.loop-number-test.true c.index-spans-number.is in
    let ends : end_of spans n ≡ span.end = end_at spans n span c.loop-number-test.true c.index-spans-number.is in
    let takes : time_of spans n ≡ span.end - span.begin = time_at spans n span c.loop-number-test.true c.index-spans-number.is in
    let whole : begin_of spans n + time_of spans n ≡ end_of spans n = let f : span.begin ≤ span.end = span.forward in omega arith in
    let by_row : IsLast spans (row rows n) c.deref.result.now n (length (row rows n)) last =
    subst (λ (named : List ℕ). IsLast spans named c.deref.result.now n (length named) last) c.row_of.ensures c.last_before-last.ensures in
    let is : IsLast spans (row rows n) sums n (length (row rows n)) last =
    subst (λ (known : List ℕ). IsLast spans (row rows n) known n (length (row rows n)) last) c.deref.ensures.value by_row in
    let at : IsBefore sums last before =
    as_before sums last before
    (subst (λ (known : List ℕ). MatchOption last (before ≡ 0) (λ l. before ≡ get_or known l 0)) c.deref-in-loop-number.ensures.value c.sum_before-before.ensures) in
    let total : sum ≡ before + time_of spans n = c.sum_with-sum.ensures.sum ∙ ap (λ t. before + t) (sym takes) in
    subst (λ (all : List ℕ). AreReached spans rows all (n + 1)) (sym c.in_ok-push.ensures.items)
    (reached_more spans rows sums sum n c.loop-number.invariant whole last is (sums_to spans (row rows n) sums n last before sum at total))
