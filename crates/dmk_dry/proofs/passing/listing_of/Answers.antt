use Rattle.std.proofs.Common.{◌≡◌, ◌+◌, ◌<◌, ◌||◌, ℕ, Bool, List, [], ◌∷◌, ◌++◌, drop, get_or, length, add-one, true≢false, refl, sym, ap, subst, ◌∙◌}
use Rattle.std.proofs.Math.Seq.{drop-cons}
use Rattle.std.proofs.lemmas.List.{append-nil, drop_all, length-set}
use Rattle.std.proofs.lemmas.Result.{err_from_is_err_and}
use Rattle.mk_plan.specs.Passing.{Passes, IsFaultAt, is_remade, told_in}
use Rattle.dmk_dry.specs.AlwaysRun.{always_from, lines_run_always}
use Rattle.mk_plan.specs.Nodes.{is_marked}
use Rattle.dmk_reading.specs.Lost.{IsLost}
use Rattle.dmk_dry.specs.Listing.{listing_text}
use Rattle.dmk_reading.specs.Passing.{lists_any}
use Rattle.dmk_dry.proofs.AlwaysLemmas.{lines_more}
use Rattle.dmk_reading.proofs.PassingLemmas.{listed_more, listed_all, any_more}
use Rattle.dmk_dry.proofs.PassingLemmas.{listed_without, no_fault_more, no_fault_without, fault_next, order_within, text_more}
use Rattle.dmk_dry.proofs.passing.listing_of.Goals as goal

-- want of memory says nothing of a recipe
pub returns-in_err-add-clause-fault : goal.returns-in_err-add-clause-fault
returns-in_err-add-clause-fault c =
    let p = err_from_is_err_and c.from_residual-in_err-add.result c.from_residual-in_err-add.ensures.1 in
    rw (p.1, p.2) tt

pub loop-node-preserved-then-is_lost : goal.loop-node-preserved-then-is_lost
loop-node-preserved-then-is_lost c =
    let keeping = c.args.keeping in
    let graph = c.args.graph.now in
    let marks = c.loop-node.marks.items in
    let i = c.loop-node.node-index in
    let read = c.as_slice-node-items.result.now in
    let n = get_or read i 0 in
    let (listed, text, any, always, before) = c.loop-node.invariant.so_far in
    let at : drop i read ≡ n ∷ drop (i + 1) read = drop-cons read i 0 c.loop-node-test.true ∙ rw add-one refl in
    let here : drop i graph.order.items ≡ n ∷ drop (i + 1) graph.order.items =
    subst (λ (nodes : List ℕ). drop i nodes ≡ n ∷ drop (i + 1) nodes) c.as_slice-node-items.ensures.value at in
    let inside : n < length graph.nodes.items = order_within graph i n here c.requires.order in
    let lost : IsLost graph n = (c.in_ok-lost.ensures c.requires.plan n inside).0 (sym (c.is_lost.ensures ∙ ap (λ ms. is_marked ms n) c.deref.ensures.value) ∙ c.if-is_lost.true) in
    record {
      count = c.loop-node.invariant.count;
      so_far = (listed, text, any, always, listed_without keeping graph marks i n listed here lost before);
      no_fault = no_fault_without keeping graph marks i n here lost c.loop-node.invariant.no_fault;
    }

pub loop-node-preserved : goal.loop-node-preserved
loop-node-preserved c =
    let keeping = c.args.keeping in
    let graph = c.args.graph.now in
    let marks = c.loop-node.marks.items in
    let i = c.loop-node.node-index in
    let read = c.as_slice-node-items.result.now in
    let n = get_or read i 0 in
    let passed = c.in_ok-passed.passed in
    let telling = c.args.shows.telling in
    let recipes = c.args.shows.recipes in
    let front = told_in graph n passed in
    let (listed, text, any, always, before) = c.loop-node.invariant.so_far in
    let at : drop i read ≡ n ∷ drop (i + 1) read = drop-cons read i 0 c.loop-node-test.true ∙ rw add-one refl in
    let here : drop i graph.order.items ≡ n ∷ drop (i + 1) graph.order.items =
    subst (λ (nodes : List ℕ). drop i nodes ≡ n ∷ drop (i + 1) nodes) c.as_slice-node-items.ensures.value at in
    let by_marks : Passes keeping graph marks n (is_remade passed) front =
    subst (λ (ms : List Bool). Passes keeping graph ms n (is_remade passed) front) c.deref-in-loop-node.ensures.value c.in_ok-passed.ensures.passes in
    let passes : Passes keeping graph marks n c.is_remade.result front =
    subst (λ (remade : Bool). Passes keeping graph marks n remade front) (sym c.is_remade.ensures) by_marks in
    let inside : n < length graph.nodes.items = order_within graph i n here c.requires.order in
    let stands : IsLost graph n → ⊥ = λ lost.
    true≢false (sym ((c.in_ok-lost.ensures c.requires.plan n inside).1 lost)
    ∙ sym (c.is_lost.ensures ∙ ap (λ ms. is_marked ms n) c.deref.ensures.value) ∙ c.if-is_lost.false) in
    record {
      count = length-set marks n c.is_remade.result ∙ c.loop-node.invariant.count;
      so_far = (
        listed ++ front,
        c.in_ok-add.ensures.text ∙ ap (λ t. t ++ listing_text telling recipes front) text ∙ sym (text_more telling recipes listed front),
        c.in_ok-add.ensures.any ∙ ap (λ b. b || lists_any front) any ∙ sym (any_more listed front),
        c.in_ok-add.ensures.always
            ∙ ap (λ l. l ++ always_from telling recipes (length c.loop-node.listing.text.items) front) always
            ∙ ap (λ t. lines_run_always telling recipes listed ++ always_from telling recipes (length t) front) text
            ∙ lines_more telling recipes listed front,
        listed_more keeping graph marks i n c.is_remade.result front listed here stands passes before,
      );
      no_fault = no_fault_more keeping graph marks i n c.is_remade.result front here stands passes c.loop-node.invariant.no_fault;
    }

pub returns-clause-listing : goal.returns-clause-listing
returns-clause-listing c =
    let graph = c.args.graph.now in
    let i = c.loop-node.node-index in
    let (listed, text, any, always, before) = c.loop-node.invariant.so_far in
    let over : drop i graph.order.items ≡ [] =
    subst (λ (nodes : List ℕ). drop i nodes ≡ []) c.as_slice-node-items.ensures.value (drop_all i c.as_slice-node-items.result.now c.loop-node-test.false) in
    (listed, listed_all c.args.keeping graph c.loop-node.marks.items i listed over (append-nil listed) before, text, any, always)

pub returns-in_err-passed-clause-fault : goal.returns-in_err-passed-clause-fault
returns-in_err-passed-clause-fault c =
    let keeping = c.args.keeping in
    let graph = c.args.graph.now in
    let marks = c.loop-node.marks.items in
    let i = c.loop-node.node-index in
    let read = c.as_slice-node-items.result.now in
    let n = get_or read i 0 in
    let f = c.in_err-passed.field-0.0 in
    let at : drop i read ≡ n ∷ drop (i + 1) read = drop-cons read i 0 c.loop-node-test.true ∙ rw add-one refl in
    let next : drop i graph.order.items ≡ n ∷ drop (i + 1) graph.order.items =
    subst (λ (nodes : List ℕ). drop i nodes ≡ n ∷ drop (i + 1) nodes) c.as_slice-node-items.ensures.value at in
    let is : IsFaultAt graph marks n f = subst (λ (ms : List Bool). IsFaultAt graph ms n f) c.deref-in-loop-node.ensures.value c.in_err-passed.ensures.fault in
    let inside : n < length graph.nodes.items = order_within graph i n next c.requires.order in
    let stands : IsLost graph n → ⊥ = λ lost.
    true≢false (sym ((c.in_ok-lost.ensures c.requires.plan n inside).1 lost)
    ∙ sym (c.is_lost.ensures ∙ ap (λ ms. is_marked ms n) c.deref.ensures.value) ∙ c.if-is_lost.false) in
    let p = err_from_is_err_and c.from_residual-in_err-passed.result c.from_residual-in_err-passed.ensures.1 in
    rw (p.1, p.2) (fault_next keeping graph marks i n f next stands is c.loop-node.invariant.no_fault)
