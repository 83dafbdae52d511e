use Rattle.std.proofs.Common.{◌≡◌, ◌≢◌, ℕ, ◌<◌, ◌≤◌, Bool, true, false, ◌||◌, nat_eq, List, ◌∷◌, ◌++◌, length, get_or, slice_index, refl, sym, ap, ◌∙◌, subst, arith, rules, eq-eqb, ne_eqb, true≢false}
use Rattle.std.proofs.lemmas.Grind.{common_steps}
use Rattle.std.proofs.lemmas.List.{get_or_read}
use Rattle.std.specs.List.{list_all}
use Rattle.mk_graph.specs.Counted.{joined}
use Rattle.mk_graph.specs.Edges.{row, has}
use Rattle.mk_graph.specs.Ready.{is_in}
use Rattle.mk_graph.specs.Watching.{is_passed, IsSeen, Waits, IsListed, AreWatched}
use Rattle.mk_graph.proofs.JoinLemmas.{length-joined}
use Rattle.mk_graph.proofs.SeenLemmas.{row_of_both, seen_on, others_taken}
use Rattle.mk_graph.proofs.WatchLemmas.{all_from, watched_open, watched_stuck}
use Rattle.mk_graph.proofs.watching.Waiting.release.Goals as goal

or_false : (c : Bool) → (c || false) ≡ c
or_false true = refl
or_false false = refl

or_true : (c : Bool) → (c || true) ≡ true
or_true true = refl
or_true false = refl

-- the first node u of the list of a node that was passed goes on
module _ (first second : List (List ℕ)) (same : length second ≡ length first) (marks : List Bool) (ready : ℕ → Bool) (from : ℕ) (places : List ℕ) (lists : List (List ℕ))
    (watched : AreWatched (joined first second) marks ready from places lists) (node : ℕ) (was : is_passed marks node ≡ true)
    (u : ℕ) (left : List (List ℕ)) (taken : row lists node ≡ u ∷ row left node) where
  at : IsListed (joined first second) marks from places node u
  at = watched.are_listed node u (ap (λ l. has l u) taken ∙ ap (λ b. b || has (row left node) u) (eq-eqb u u refl))

  in_graph : u < length first
  in_graph = let a = at.looked_at in let b = watched.some in let j = length-joined first second in omega arith

  in_places : u < length places
  in_places = let a = in_graph in let b = watched.placed in let j = length-joined first second in omega arith

  in_lists : u < length lists
  in_lists = let a = in_graph in let b = watched.linked in let j = length-joined first second in omega arith

  -- nothing stands before the number that it waited for
  module _ (place : ℕ) (read : place ≡ get_or places u place) (first_one : place ≡ 0) (elsewhere : (p : ℕ) → p ≢ node → row left p ≡ row lists p)
      (linked : length left ≡ length lists) (free : (p : ℕ) → has (row left p) u ≡ false) where
    zero : slice_index places u ≡ 0
    zero = sym (get_or_read places u place in_places read 0) ∙ first_one

    all : list_all (is_passed marks) (row (joined first second) u) ≡ true
    all = all_from (is_passed marks) (row (joined first second) u)
        (λ k within. seen_on marks (row (joined first second) u) (slice_index places u) node at.seen was k (omega (arith, zero)) within)

    at_once : (ready' : ℕ → Bool) → ((n : ℕ) → ready' n ≡ (ready n || nat_eq n u)) → AreWatched (joined first second) marks ready' from places left
    at_once ready' noted = watched_open (joined first second) marks ready from places lists watched u (row (joined first second) u) refl from places left refl linked
        watched.some (omega arith) (λ n lt off. lt) at.looked_at at.fresh (λ n off. refl)
        (others_taken lists left node u taken elsewhere) (λ p h. absurd (true≢false (sym h ∙ free p)))
        ready' (λ n off. noted n ∙ ap (λ c. ready n || c) (ne_eqb n u off) ∙ or_false (ready n)) (noted u ∙ ap (λ c. ready u || c) (eq-eqb u u refl) ∙ or_true (ready u)) all

  module _ (xs ys : List ℕ) (a : xs ≡ row first u) (b : ys ≡ row second u) (place : ℕ) (read : place ≡ get_or places u place) where
    seen : IsSeen marks (xs ++ ys) place node
    seen =
        subst (λ k. IsSeen marks (xs ++ ys) k node) (sym (get_or_read places u place in_places read 0))
        (subst (λ l. IsSeen marks l (slice_index places u) node) (row_of_both first second same u xs ys a b) at.seen)

    room : place ≤ length (xs ++ ys)
    room = let lt = seen.within in omega arith

    behind : (k : ℕ) → place ≤ k → k < length (xs ++ ys) → is_passed marks (slice_index (xs ++ ys) k) ≡ true
    behind = seen_on marks (xs ++ ys) place node seen was

    module _ (elsewhere : (p : ℕ) → p ≢ node → row left p ≡ row lists p) (from' : ℕ) (still : from' ≡ from) (places' : List ℕ) (lists' : List (List ℕ))
        (placed : length places' ≡ length places) (linked : length lists' ≡ length lists)
        (places_still : (n : ℕ) → n ≢ u → slice_index places' n ≡ slice_index places n)
        (lists_still : (p n : ℕ) → n ≢ u → has (row lists' p) n ≡ has (row left p) n)
        (own : (p : ℕ) → has (row lists' p) u ≡ true → IsSeen marks (xs ++ ys) (slice_index places' u) p) where
      opened : (ready' : ℕ → Bool) → ((n : ℕ) → ready' n ≡ (ready n || nat_eq n u)) → list_all (is_passed marks) (xs ++ ys) ≡ true
          → AreWatched (joined first second) marks ready' from' places' lists'
      opened ready' noted all = watched_open (joined first second) marks ready from places lists watched u (xs ++ ys) (row_of_both first second same u xs ys a b) from' places' lists' placed linked
          (let s = watched.some in omega arith) (omega arith) (λ n lt off. omega arith) (let l = at.looked_at in omega arith) at.fresh places_still
          (λ p n off. lists_still p n off ∙ others_taken lists left node u taken elsewhere p n off) own
          ready' (λ n off. noted n ∙ ap (λ c. ready n || c) (ne_eqb n u off) ∙ or_false (ready n)) (noted u ∙ ap (λ c. ready u || c) (eq-eqb u u refl) ∙ or_true (ready u)) all

      stuck : Waits marks (xs ++ ys) places' lists' u → AreWatched (joined first second) marks ready from' places' lists'
      stuck = watched_stuck (joined first second) marks ready from places lists watched u (xs ++ ys) (row_of_both first second same u xs ys a b) from' places' lists' placed linked
          (let s = watched.some in omega arith) (omega arith) (λ n lt off. omega arith) (let l = at.looked_at in omega arith) at.fresh places_still
          (λ p n off. lists_still p n off ∙ others_taken lists left node u taken elsewhere p n off) own

pub index-place-requires : goal.index-place-requires
index-place-requires c =
    let w = c.loop-waiter.self in
    let k : c.in-Some.waiter < length w.places.items = in_places c.args.first.now c.args.second.now c.requires.nodes c.args.passed.now (is_in c.loop-waiter.ready) w.from w.places.items w.lists
    c.loop-waiter.invariant.watched c.args.node c.requires.passed c.in-Some.waiter c.take_first.new.self c.in-Some.ensures.some in
    first_of (search (rules, k), grind (arith, common_steps, k))

pub row-row-requires : goal.row-row-requires
row-row-requires c =
    let w = c.loop-waiter.self in
    in_graph c.args.first.now c.args.second.now c.requires.nodes c.args.passed.now (is_in c.loop-waiter.ready) w.from w.places.items w.lists
    c.loop-waiter.invariant.watched c.args.node c.requires.passed c.in-Some.waiter c.take_first.new.self c.in-Some.ensures.some

pub row_of-more-requires : goal.row_of-more-requires
row_of-more-requires c =
    let w = c.loop-waiter.self in
    let k : c.in-Some.waiter < length c.args.first.now = in_graph c.args.first.now c.args.second.now c.requires.nodes c.args.passed.now (is_in c.loop-waiter.ready) w.from w.places.items w.lists
    c.loop-waiter.invariant.watched c.args.node c.requires.passed c.in-Some.waiter c.take_first.new.self c.in-Some.ensures.some in
    let e = c.requires.nodes in
    omega arith

pub go_on-requires-clause-node : goal.go_on-requires-clause-node
go_on-requires-clause-node c =
    let w = c.loop-waiter.self in
    let k : c.in-Some.waiter < length w.lists = in_lists c.args.first.now c.args.second.now c.requires.nodes c.args.passed.now (is_in c.loop-waiter.ready) w.from w.places.items w.lists
    c.loop-waiter.invariant.watched c.args.node c.requires.passed c.in-Some.waiter c.take_first.new.self c.in-Some.ensures.some in
    let e = c.take_first.ensures.nodes in
    omega arith

pub go_on-requires-clause-within : goal.go_on-requires-clause-within
go_on-requires-clause-within c =
    let w = c.loop-waiter.self in
    room c.args.first.now c.args.second.now c.requires.nodes c.args.passed.now (is_in c.loop-waiter.ready) w.from w.places.items w.lists
    c.loop-waiter.invariant.watched c.args.node c.requires.passed c.in-Some.waiter c.take_first.new.self c.in-Some.ensures.some
    c.row-row.result.now c.row_of-more.result.now c.row-row.ensures c.row_of-more.ensures c.index-place.result.now c.index-place.ensures

pub go_on-requires-clause-seen : goal.go_on-requires-clause-seen
go_on-requires-clause-seen c =
    let w = c.loop-waiter.self in
    behind c.args.first.now c.args.second.now c.requires.nodes c.args.passed.now (is_in c.loop-waiter.ready) w.from w.places.items w.lists
    c.loop-waiter.invariant.watched c.args.node c.requires.passed c.in-Some.waiter c.take_first.new.self c.in-Some.ensures.some
    c.row-row.result.now c.row_of-more.result.now c.row-row.ensures c.row_of-more.ensures c.index-place.result.now c.index-place.ensures

pub loop-waiter-preserved-then-place-eq0 : goal.loop-waiter-preserved-then-place-eq0
loop-waiter-preserved-then-place-eq0 c =
    let w = c.loop-waiter.self in
    record {
      watched = at_once c.args.first.now c.args.second.now c.requires.nodes c.args.passed.now (is_in c.loop-waiter.ready) w.from w.places.items w.lists
          c.loop-waiter.invariant.watched c.args.node c.requires.passed c.in-Some.waiter c.take_first.new.self c.in-Some.ensures.some
          c.index-place.result.now c.index-place.ensures c.if-place-eq0.true c.take_first.ensures.elsewhere c.take_first.ensures.nodes c.in-Some.ensures.free
          (is_in c.insert.new.self) c.in_ok-insert.ensures;
      released = λ p off was. c.take_first.ensures.elsewhere p off ∙ c.loop-waiter.invariant.released p off was;
    }

pub loop-waiter-preserved-in-Continue-branch-3 : goal.loop-waiter-preserved-in-Continue-branch-3
loop-waiter-preserved-in-Continue-branch-3 c =
    let w = c.loop-waiter.self in
    let w' = c.go_on.new.self in
    let g = c.go_on.ensures in
    record {
      watched = opened c.args.first.now c.args.second.now c.requires.nodes c.args.passed.now (is_in c.loop-waiter.ready) w.from w.places.items w.lists
          c.loop-waiter.invariant.watched c.args.node c.requires.passed c.in-Some.waiter c.take_first.new.self c.in-Some.ensures.some
          c.row-row.result.now c.row_of-more.result.now c.row-row.ensures c.row_of-more.ensures c.index-place.result.now c.index-place.ensures
          c.take_first.ensures.elsewhere w'.from g.from w'.places.items w'.lists g.places (g.lists ∙ c.take_first.ensures.nodes) g.others g.still c.in_ok-go_on.ensures.own
          (is_in c.insert-then-branch.new.self) c.in_ok-insert-2.ensures (c.in_ok-go_on.ensures.all c.if-branch.true);
      released = λ p off was. g.passed p was ∙ c.take_first.ensures.elsewhere p off ∙ c.loop-waiter.invariant.released p off was;
    }

pub loop-waiter-preserved : goal.loop-waiter-preserved
loop-waiter-preserved c =
    let w = c.loop-waiter.self in
    let w' = c.go_on.new.self in
    let g = c.go_on.ensures in
    record {
      watched = stuck c.args.first.now c.args.second.now c.requires.nodes c.args.passed.now (is_in c.loop-waiter.ready) w.from w.places.items w.lists
          c.loop-waiter.invariant.watched c.args.node c.requires.passed c.in-Some.waiter c.take_first.new.self c.in-Some.ensures.some
          c.row-row.result.now c.row_of-more.result.now c.row-row.ensures c.row_of-more.ensures c.index-place.result.now c.index-place.ensures
          c.take_first.ensures.elsewhere w'.from g.from w'.places.items w'.lists g.places (g.lists ∙ c.take_first.ensures.nodes) g.others g.still c.in_ok-go_on.ensures.own
          (c.in_ok-go_on.ensures.waits c.if-branch.false);
      released = λ p off was. g.passed p was ∙ c.take_first.ensures.elsewhere p off ∙ c.loop-waiter.invariant.released p off was;
    }
