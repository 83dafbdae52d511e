-- What is marked while the nodes of a graph that stand on some are looked for.
use Rattle.std.proofs.Common.{◌≡◌, ◌∙◌, inl, inr, ℕ, ◌+◌, ◌<◌, ◌≤◌, Bool, true, false, ◌&&◌, ◌||◌, nat_eq, nat_lt, List, [], ◌∷◌, ◌++◌, length, take, drop, get_or, append_assoc, append-nil, refl, sym, ap, subst, arith, eq-eqb, eqb-true, lt-ltb, true≢false}
use Rattle.std.specs.Prelude.{◌↔◌, replicate, if◌then◌else◌}
use Rattle.std.specs.List.{list_any, list_all}
use Rattle.std.proofs.Math.Seq.{drop-cons}
use Rattle.std.proofs.lemmas.Bool.{and_parts, and_from, or_cases, or_left, or_right, true_from_ne_false}
use Rattle.std.proofs.lemmas.List.{take-append-drop, take_all, take_more, length-replicate}
use Rattle.mk_graph.specs.Counted.{counting}
use Rattle.mk_graph.specs.Edges.{row, has, times}
use Rattle.mk_graph.specs.Plan.{IsPlanAfter}
use Rattle.mk_graph.proofs.CountedLemmas.{wider_joined, below_from_closed}
use Rattle.mk_graph.proofs.PlanLemmas.{none_passed}
use Rattle.mk_graph.proofs.RowLemmas.{list_all-has, has-push, times_without_has}
use Rattle.mk_nodes.specs.Graph.{required_in, counting_in}
use Rattle.mk_nodes.specs.declared.graph.Graph.{Graph}
use Rattle.mk_plan.specs.Nodes.{is_marked}
use Rattle.dmk_reading.specs.Lost.{IsLost, StandsOn, is_one, stands_on}
use Rattle.dmk_reading.specs.Passing.{PassesEach}

-- where something makes each name, none is lost
pub none_lost : (graph : Graph) → graph.unmade.items ≡ [] → (n : ℕ) → IsLost graph n → ⊥
none_lost graph none _ (is_one {n = n} in_it) = true≢false (sym in_it ∙ ap (λ us. has us n) none)
none_lost graph none _ (stands_on {m = m} needs lost) = none_lost graph none m lost

pub nothing_in : {A : Type 0} (xs : List A) → length xs ≡ 0 → xs ≡ []
nothing_in [] none = refl
nothing_in (x ∷ xs) none = absurd (omega (arith, none))

pub no_marks : (marks : List Bool) (n : ℕ) → marks ≡ [] → is_marked marks n ≡ true → ⊥
no_marks marks n none marked = true≢false (sym marked ∙ ap (λ ms. is_marked ms n) none)

-- ---- what a node isn't made without is passed before it

wider : (hard soft : List (List ℕ)) (dropped : Bool) → length soft ≡ length hard → (n m : ℕ) → has (row hard n) m ≡ true →
    has (row (counting hard soft dropped) n) m ≡ true
wider hard soft true as_many n m there = there
wider hard soft false as_many n m there = wider_joined hard soft as_many n m there

passed_before : (g : List (List ℕ)) (passed front : List ℕ) (n : ℕ) (rest : List ℕ) → IsPlanAfter g passed (front ++ n ∷ rest) → (m : ℕ) →
    has (row g n) m ≡ true → has (passed ++ front) m ≡ true
passed_before g passed [] n rest (next, more) m there =
    let ready = and_parts (nat_lt n (length g)) _ next.ready in
    let all = (and_parts _ (list_all (has passed) (row g n)) ready.1).1 in
    ap (λ ns. has ns m) (append-nil passed) ∙ list_all-has (has passed) (row g n) m all there
passed_before g passed (x ∷ front) n rest (next, more) m there =
    ap (λ ns. has ns m) (sym (append_assoc passed (x ∷ []) front)) ∙ passed_before g (passed ++ x ∷ []) front n rest more m there

needed_before : (graph : Graph) → PassesEach graph → (i n : ℕ) → drop i graph.order.items ≡ n ∷ drop (i + 1) graph.order.items → (m : ℕ) →
    has (row (required_in graph) n) m ≡ true → has (take i graph.order.items) m ≡ true
needed_before graph passes i n next m there =
    let order = graph.order.items in
    let parted : order ≡ take i order ++ n ∷ drop (i + 1) order = sym (take-append-drop i order) ∙ ap (λ ns. take i order ++ ns) next in
    passed_before (counting_in graph) [] (take i order) n (drop (i + 1) order) (subst (IsPlanAfter (counting_in graph) []) parted passes.order) m
    (wider (required_in graph) graph.soft graph.soft_dropped (graph.soft_rows ∙ sym graph.required_rows) n m there)

needed_inside : (graph : Graph) (n m : ℕ) → has (row (required_in graph) n) m ≡ true → m < length graph.nodes.items
needed_inside graph n m there = subst (λ l. m < l) graph.required_rows (below_from_closed (required_in graph) graph.required_closed n m there)

-- what stands on some nodes of the graph stands on others, where all of these are among them
pub stands_on_others : (graph : Graph) (These Others : ℕ → Type 0) → ((m : ℕ) → m < length graph.nodes.items → These m → Others m) →
    (n : ℕ) → n < length graph.nodes.items → StandsOn graph These n → StandsOn graph Others n
stands_on_others graph These Others among _ inside (is_one {n = n} these) = is_one (among n inside these)
stands_on_others graph These Others among _ inside (stands_on {n = n} {m = m} needs on) =
    stands_on {m = m} needs (stands_on_others graph These Others among m (needed_inside graph n m needs) on)

one_not_none : (count : ℕ) → count ≡ 1 → count ≡ 0 → ⊥
one_not_none count one none = omega (arith, one, none)

-- ---- marks

any_from : (p : ℕ → Bool) (ns : List ℕ) (m : ℕ) → has ns m ≡ true → p m ≡ true → list_any p ns ≡ true
any_from p [] m there is = absurd (true≢false (sym there))
any_from p (x ∷ ns) m there is = elim (or_cases (nat_eq m x) (has ns m) there) [
  | inl same ↦ or_left (p x) (list_any p ns) (ap p (sym (eqb-true m x same)) ∙ is)
  | inr later ↦ or_right (p x) (list_any p ns) (any_from p ns m later is)
]

some_in : (p : ℕ → Bool) (ns : List ℕ) → list_any p ns ≡ true → (m : ℕ) × (has ns m ≡ true) × (p m ≡ true)
some_in p [] any = absurd (true≢false (sym any))
some_in p (x ∷ ns) any = elim (or_cases (p x) (list_any p ns) any) [
  | inl first ↦ (x, or_left (nat_eq x x) (has ns x) (eq-eqb x x refl), first)
  | inr later ↦ let (m, there, is) = some_in p ns later in (m, or_right (nat_eq m x) (has ns m) there, is)
]

pub none_more : (marked : Bool) → marked ≡ (marked || false)
none_more true = refl
none_more false = refl

pub fresh_marks : (marks : List Bool) (count nodes n : ℕ) (rest : Bool) → marks ≡ replicate count false → count ≡ nodes →
    (is_marked marks n || (rest && nat_lt n (length marks))) ≡ (rest && nat_lt n nodes)
fresh_marks marks count nodes n rest fresh all =
    ap (λ m. m || (rest && nat_lt n (length marks))) (ap (λ ms. is_marked ms n) fresh ∙ none_passed count n)
    ∙ ap (λ l. rest && nat_lt n l) (ap length fresh ∙ length-replicate count false ∙ all)

both_within : (marked before now within : Bool) → ((marked || (before && within)) || (now && within)) ≡ (marked || ((before || now) && within))
both_within true before now within = refl
both_within false true now true = refl
both_within false true true false = refl
both_within false true false false = refl
both_within false false true within = refl
both_within false false false within = refl

-- a number more is marked
pub more_marked : (nodes : List ℕ) (first marks : List Bool) (i n : ℕ) → i < length nodes → length marks ≡ length first →
    is_marked marks n ≡ (is_marked first n || (has (take i nodes) n && nat_lt n (length first))) →
    (is_marked marks n || (nat_eq n (get_or nodes i 0) && nat_lt n (length marks)))
    ≡ (is_marked first n || (has (take (i + 1) nodes) n && nat_lt n (length first)))
more_marked nodes first marks i n within count so_far =
    ap (λ m. m || (nat_eq n (get_or nodes i 0) && nat_lt n (length marks))) so_far
    ∙ ap (λ l. (is_marked first n || (has (take i nodes) n && nat_lt n (length first))) || (nat_eq n (get_or nodes i 0) && nat_lt n l)) count
    ∙ both_within (is_marked first n) (has (take i nodes) n) (nat_eq n (get_or nodes i 0)) (nat_lt n (length first))
    ∙ ap (λ t. is_marked first n || (t && nat_lt n (length first)))
    (sym (has-push (take i nodes) (get_or nodes i 0) n) ∙ ap (λ ns. has ns n) (sym (take_more nodes i 0 within)))

-- the numbers of a list
abbrev pub AreIn : List ℕ → (n : ℕ) → Type 0
AreIn first n = has first n ≡ true

-- what is marked behind so many nodes of the order
pub record StandSoFar (graph : Graph) (first : List ℕ) (marks : List Bool) (i : ℕ) : Type 0 where
  pub count : length marks ≡ length graph.nodes.items
  pub sound : (n : ℕ) → is_marked marks n ≡ true → StandsOn graph (AreIn first) n
  pub named : (n : ℕ) → n < length graph.nodes.items → has first n ≡ true → is_marked marks n ≡ true
  pub passed : PassesEach graph → (n : ℕ) → n < length graph.nodes.items → has (take i graph.order.items) n ≡ true → StandsOn graph (AreIn first) n → is_marked marks n ≡ true

pub stand_start : (graph : Graph) (first : List ℕ) (marks : List Bool) → length marks ≡ length graph.nodes.items →
    ((n : ℕ) → is_marked marks n ≡ (has first n && nat_lt n (length graph.nodes.items))) → StandSoFar graph first marks 0
stand_start graph first marks count are = record {
  count = count;
  sound = λ n marked. is_one (and_parts (has first n) (nat_lt n (length graph.nodes.items)) (sym (are n) ∙ marked)).0;
  named = λ n within there.
      are n ∙ and_from (has first n) (nat_lt n (length graph.nodes.items)) there (lt-ltb n (length graph.nodes.items) within);
  passed = λ passes n within none lost. absurd (true≢false (sym none));
}

module _ (graph : Graph) (first : List ℕ) (marks new : List Bool) (i n : ℕ) (within : i < length graph.order.items)
    (next : drop i graph.order.items ≡ n ∷ drop (i + 1) graph.order.items) (so_far : StandSoFar graph first marks i) (count : length new ≡ length marks)
    (are : (q : ℕ) → is_marked new q
    ≡ (is_marked marks q || ((nat_eq q n && nat_lt q (length marks)) && list_any (is_marked marks) (row (required_in graph) n)))) where
  still : (q : ℕ) → is_marked marks q ≡ true → is_marked new q ≡ true
  still q marked = are q ∙ or_left (is_marked marks q) _ marked

  -- a node that is marked now has a marked one in its row
  marked_now : (q : ℕ) → is_marked new q ≡ true → StandsOn graph (AreIn first) q
  marked_now q marked = elim (or_cases (is_marked marks q) _ (sym (are q) ∙ marked)) [
    | inl before ↦ so_far.sound q before
    | inr now ↦
        let parts = and_parts (nat_eq q n && nat_lt q (length marks)) (list_any (is_marked marks) (row (required_in graph) n)) now in
        let same : q ≡ n = eqb-true q n (and_parts (nat_eq q n) (nat_lt q (length marks)) parts.0).0 in
        let (m, there, is) = some_in (is_marked marks) (row (required_in graph) n) parts.1 in
        subst (StandsOn graph (AreIn first)) (sym same) (stands_on {m = m} there (so_far.sound m is))
  ]

  mark_this : n < length graph.nodes.items → list_any (is_marked marks) (row (required_in graph) n) ≡ true → is_marked new n ≡ true
  mark_this inside any =
      are n
      ∙ or_right (is_marked marks n) _ (and_from (nat_eq n n && nat_lt n (length marks)) _
      (and_from (nat_eq n n) (nat_lt n (length marks)) (eq-eqb n n refl) (lt-ltb n (length marks) (subst (λ l. n < l) (sym so_far.count) inside))) any)

  -- the node that is passed now is marked where it stands on them: it is one of them, or the one that it isn't made without was passed before it
  this_one : PassesEach graph → n < length graph.nodes.items → (q : ℕ) → q ≡ n → StandsOn graph (AreIn first) q → is_marked new n ≡ true
  this_one passes inside _ same (is_one {n = q} there) = still n (so_far.named n inside (ap (λ x. has first x) (sym same) ∙ there))
  this_one passes inside _ same (stands_on {n = q} {m = m} needs lost) =
      let there : has (row (required_in graph) n) m ≡ true = ap (λ x. has (row (required_in graph) x) m) (sym same) ∙ needs in
      mark_this inside
      (any_from (is_marked marks) (row (required_in graph) n) m there
      (so_far.passed passes m (needed_inside graph n m there) (needed_before graph passes i n next m there) lost))

  more_passed : take (i + 1) graph.order.items ≡ take i graph.order.items ++ n ∷ []
  more_passed =
      take_more graph.order.items i 0 within
      ∙ ap (λ x. take i graph.order.items ++ x ∷ []) (ap (λ ns. get_or ns 0 0) (sym (drop-cons graph.order.items i 0 within) ∙ next))

  pub stand_more : StandSoFar graph first new (i + 1)
  stand_more = record {
    count = count ∙ so_far.count;
    sound = marked_now;
    named = λ q inside there. still q (so_far.named q inside there);
    passed = λ passes q inside there lost.
        elim (or_cases (has (take i graph.order.items) q) (nat_eq q n)
        (sym (ap (λ ns. has ns q) more_passed ∙ has-push (take i graph.order.items) n q) ∙ there)) [
          | inl before ↦ still q (so_far.passed passes q inside before lost)
          | inr now ↦
              let same : q ≡ n = eqb-true q n now in
              ap (λ x. is_marked new x) same ∙ this_one passes (subst (λ x. x < length graph.nodes.items) same inside) q same lost
        ];
  }

-- all nodes were passed
pub stand_all : (graph : Graph) (first : List ℕ) (marks : List Bool) (i : ℕ) → length graph.order.items ≤ i → StandSoFar graph first marks i → PassesEach graph →
    (n : ℕ) → n < length graph.nodes.items → (is_marked marks n ≡ true) ↔ StandsOn graph (AreIn first) n
stand_all graph first marks i over so_far passes n inside =
    let order = graph.order.items in
    let once : times n order ≡ 1 = passes.once n ∙ ap (λ b. if b then 1 else 0) (lt-ltb n (length graph.nodes.items) inside) in
    let there : has order n ≡ true = true_from_ne_false (has order n) (λ out. one_not_none (times n order) once (times_without_has n order out)) in
    (so_far.sound n, λ lost. so_far.passed passes n inside (ap (λ ns. has ns n) (take_all i order over) ∙ there) lost)
