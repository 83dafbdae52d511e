use Rattle.std.proofs.Common.{◌≡◌, ℕ, ◌+◌, ◌<◌, Bool, true, false, List, [], ◌∷◌, ◌++◌, length, get_or, set, take, drop, nat_eq, nat_lt, ltb-true, sym, ap, ◌∙◌, subst, arith, length-append}
use Rattle.std.proofs.lemmas.Grind.{common_steps}
use Rattle.std.proofs.lemmas.List.{drop_more, get_or_read}
use Rattle.std.proofs.lemmas.Result.{IfOk-weaker}
use Rattle.std.specs.List.{IsDistinct}
use Rattle.mk_graph.specs.Edges.{row, has}
use Rattle.mk_graph.specs.Ring.{IsRing}
use Rattle.mk_graph.proofs.RowLemmas.{list_all-has}
use Rattle.mk_graph.proofs.CycleLemmas.{Walks, Walks-start, Walks-more, room_on_path, LeadsTo, ring_of_path, once_behind, parts_at, closed_row}
use Rattle.mk_graph.proofs.cycles.walk.Goals as goal

is_fresh : (fresh : List Bool) (at : ℕ) (read : Bool) → at < length fresh → read ≡ get_or fresh at read → read ≡ true → get_or fresh at false ≡ true
is_fresh fresh at read within is holds = sym (get_or_read fresh at read within is false) ∙ holds

pub loop-fresh-init : goal.loop-fresh-init
loop-fresh-init c =
    let P : List ℕ → Type 0 = λ l. Walks c.args.edges.now c.args.marks.now l c.in_ok-fresh.fresh.items c.args.start in
    subst P (sym c.new-path.ensures.items)
    (Walks-start c.args.edges.now c.args.marks.now c.in_ok-fresh.fresh.items c.args.start (grind (arith, common_steps)) c.requires.start c.requires.unmarked)

pub loop-fresh-smaller : goal.loop-fresh-smaller
loop-fresh-smaller c =
    let r = room_on_path c.args.edges.now c.args.marks.now c.loop-fresh.path.items c.loop-fresh.fresh.items c.loop-fresh.at c.loop-fresh.invariant (is_fresh c.loop-fresh.fresh.items c.loop-fresh.at c.index.result.now (omega arith) c.index.ensures c.loop-fresh-test.true) in
    let grown = ap length c.in_ok-push.ensures.items ∙ length-append c.loop-fresh.path.items (c.loop-fresh.at ∷ []) in
    omega arith

pub loop-fresh-preserved : goal.loop-fresh-preserved
loop-fresh-preserved c =
    let g = c.args.edges.now in
    let at = c.loop-fresh.at in
    let step : has (row g at) c.in-Some.next ≡ true = subst (λ l. has l c.in-Some.next ≡ true) c.row.ensures c.in-Some.ensures.some in
    let P : List ℕ → Type 0 = λ l. Walks g c.args.marks.now l (set c.loop-fresh.fresh.items at false) c.in-Some.next in
    subst P (sym c.in_ok-push.ensures.items)
    (Walks-more g c.args.marks.now c.loop-fresh.path.items c.loop-fresh.fresh.items at c.loop-fresh.invariant (is_fresh c.loop-fresh.fresh.items at c.index.result.now (omega arith) c.index.ensures c.loop-fresh-test.true) c.in-Some.next step
    (ltb-true c.in-Some.next (length g) (list_all-has (λ m. nat_lt m (length g)) (row g at) c.in-Some.next (closed_row g c.requires.closed at c.loop-fresh.invariant.place) step)) c.in-Some.ensures.unmarked)

module _ (g : List (List ℕ)) (marks : List Bool) (path : List ℕ) (fresh : List Bool) (at place : ℕ) (walk : Walks g marks path fresh at)
    (within : place < length path) (here : get_or path place 0 ≡ at) where
  split : path ≡ take place path ++ at ∷ drop (place + 1) path
  split = parts_at path place within ∙ ap (λ n. take place path ++ n ∷ drop (place + 1) path) here

  rest : drop place path ≡ at ∷ drop (place + 1) path
  rest = drop_more path place 0 within ∙ ap (λ n. n ∷ drop (place + 1) path) here

  ring : IsRing g (drop place path)
  ring = subst (IsRing g) (sym rest) (ring_of_path g (take place path) at (drop (place + 1) path) (subst (λ l. LeadsTo g l at) split walk.leads))

  once : IsDistinct nat_eq (drop place path)
  once = subst (IsDistinct nat_eq) (sym rest) (once_behind (take place path) (at ∷ drop (place + 1) path) (subst (IsDistinct nat_eq) split walk.once))

pub returns-clause-ring : goal.returns-clause-ring
returns-clause-ring c =
    let g = c.args.edges.now in
    let path = c.loop-fresh.path.items in
    let place = c.place_of-again.result in
    let part : c.split_at.result.1.now ≡ drop place path = c.split_at.ensures.back ∙ ap (drop place) c.as_slice.ensures.value in
    let within : place < length path = subst (λ l. place < length l) c.deref.ensures.value c.place_of-again.ensures.within in
    let here : get_or path place 0 ≡ c.loop-fresh.at = ap (λ l. get_or l place 0) (sym c.deref.ensures.value) ∙ c.place_of-again.ensures.at in
    IfOk-weaker c.from_slice.result (λ v. v.items ≡ c.split_at.result.1.now) (λ v. IsRing g v.items)
    (λ v e. subst (IsRing g) (sym (e ∙ part)) (ring g c.args.marks.now path c.loop-fresh.fresh.items c.loop-fresh.at place c.loop-fresh.invariant within here))
    c.from_slice.ensures.items

pub returns-clause-once : goal.returns-clause-once
returns-clause-once c =
    let g = c.args.edges.now in
    let path = c.loop-fresh.path.items in
    let place = c.place_of-again.result in
    let part : c.split_at.result.1.now ≡ drop place path = c.split_at.ensures.back ∙ ap (drop place) c.as_slice.ensures.value in
    let within : place < length path = subst (λ l. place < length l) c.deref.ensures.value c.place_of-again.ensures.within in
    let here : get_or path place 0 ≡ c.loop-fresh.at = ap (λ l. get_or l place 0) (sym c.deref.ensures.value) ∙ c.place_of-again.ensures.at in
    IfOk-weaker c.from_slice.result (λ v. v.items ≡ c.split_at.result.1.now) (λ v. IsDistinct nat_eq v.items)
    (λ v e. subst (IsDistinct nat_eq) (sym (e ∙ part)) (once g c.args.marks.now path c.loop-fresh.fresh.items c.loop-fresh.at place c.loop-fresh.invariant within here))
    c.from_slice.ensures.items
