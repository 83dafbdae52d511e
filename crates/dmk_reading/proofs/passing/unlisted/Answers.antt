use Rattle.std.proofs.Common.{arith, ◌≡◌, ◌+◌, ℕ, Bool, List, false, [], ◌∷◌, ◌++◌, drop, get_or, add-one, refl, sym, subst, ◌∙◌}
use Rattle.std.proofs.Math.Seq.{drop-cons}
use Rattle.std.proofs.lemmas.List.{append-nil, drop_all, length-set}
use Rattle.mk_plan.specs.Passing.{Passes, is_remade, told_in}
use Rattle.dmk_reading.specs.Passing.{lists_any}
use Rattle.std.proofs.lemmas.Grind.{common_steps}
use Rattle.dmk_reading.proofs.LostLemmas.{none_lost, nothing_in}
use Rattle.dmk_reading.proofs.PassingLemmas.{listed_more, listed_all, none_more}
use Rattle.dmk_reading.proofs.passing.unlisted.Goals as goal

pub loop-number-preserved : goal.loop-number-preserved
loop-number-preserved c =
    let keeping = c.args.keeping in
    let graph = c.args.graph.now in
    let marks = c.loop-number.marks.items in
    let i = c.loop-number.number-index in
    let read = c.as_slice-number-items.result.now in
    let n = get_or read i 0 in
    let passed = c.in-Ok-pass_in.passed in
    let front = told_in graph n passed in
    let at : drop i read ≡ n ∷ drop (i + 1) read = drop-cons read i 0 c.loop-number-test.true ∙ rw add-one refl in
    let here : drop i graph.order.items ≡ n ∷ drop (i + 1) graph.order.items =
    subst (λ (nodes : List ℕ). drop i nodes ≡ n ∷ drop (i + 1) nodes) c.as_slice-number-items.ensures.value at in
    let by_marks : Passes keeping graph marks n (is_remade passed) front =
    subst (λ (ms : List Bool). Passes keeping graph ms n (is_remade passed) front) c.deref.ensures.value c.in-Ok-pass_in.ensures.passes in
    let passes : Passes keeping graph marks n c.is_remade.result front =
    subst (λ (remade : Bool). Passes keeping graph marks n remade front) (sym c.is_remade.ensures) by_marks in
    let (listed, before, none) = c.loop-number.invariant.none_so_far in
    let here_none : lists_any front ≡ false = sym (c.is_listed.ensures graph n) ∙ c.if-is_listed.false in
    record {
      count = length-set marks n c.is_remade.result ∙ c.loop-number.invariant.count;
      none_so_far = (
        listed ++ front,
        listed_more keeping graph marks i n c.is_remade.result front listed here (none_lost graph (nothing_in graph.unmade.items (let ok = graph.unmade.ok in let e = c.if-not-is_empty.false in let f = c.is_empty.ensures in grind (arith, common_steps, ok, e, f))) n) passes before,
        none_more listed front none here_none,
      );
    }

pub returns-clause-listing : goal.returns-clause-listing
returns-clause-listing c =
    let graph = c.args.graph.now in
    let i = c.loop-number.number-index in
    let (listed, before, none) = c.loop-number.invariant.none_so_far in
    let over : drop i graph.order.items ≡ [] =
    subst (λ (nodes : List ℕ). drop i nodes ≡ []) c.as_slice-number-items.ensures.value (drop_all i c.as_slice-number-items.result.now c.loop-number-test.false) in
    (listed, listed_all c.args.keeping graph c.loop-number.marks.items i listed over (append-nil listed) before, none)
