-- What stays true while a plan is made, and that there is one plan.
use Rattle.std.proofs.Common.{◌≡◌, ℕ, ◌+◌, ◌<◌, ◌≤◌, Bool, true, false, not, ◌&&◌, ◌||◌, ◌⊎◌, nat_eq, nat_lt, List, [], ◌∷◌, ◌++◌, length, set, replicate, refl, sym, ap, ◌∙◌, subst, ⊎_elim, arith, eq-eqb, ne_eqb, ltb-true, lt-ltb, true≢false, append_assoc, length-append, get_or-set_same, get_or-set_other}
use Rattle.std.proofs.lemmas.Bool.{cases_eq, cases_order, cases_lt}
use Rattle.std.proofs.lemmas.Cmp.{nat_eq_equiv}
use Rattle.std.proofs.lemmas.List.{get_or_past, get_or-replicate, length-replicate}
use Rattle.std.proofs.lemmas.List.Folds.{list_all-append}
use Rattle.std.proofs.lemmas.Map.Keys.{IsDistinct-push}
use Rattle.std.proofs.lemmas.Map.Steps.{length-le_from_distinct_below}
use Rattle.std.specs.List.{list_all, IsDistinct}
use Rattle.mk_graph.specs.Edges.{row, has}
use Rattle.mk_graph.specs.Plan.{is_ready, IsPlanAfter, IsPlan}
use Rattle.mk_graph.specs.Watching.{is_passed, can_pass}
use Rattle.mk_graph.proofs.RowLemmas.{has-push, list_all-has}
use Rattle.mk_graph.proofs.WatchLemmas.{can_within, can_fresh}

-- what is kept while nodes are passed: those of o were, and the marks say so
pub record Passes (g : List (List ℕ)) (marks : List Bool) (o : List ℕ) : Type 0 where
  pub marked : (q : ℕ) → is_passed marks q ≡ has o q
  pub nodes : list_all (λ q. nat_lt q (length g)) o ≡ true
  pub once : IsDistinct nat_eq o
  pub so_far : (more : List ℕ) → IsPlanAfter g o more → IsPlan g (o ++ more)

nothing_twice : IsDistinct nat_eq []
unfolding IsDistinct
nothing_twice = tt

pub none_passed : (n q : ℕ) → is_passed (replicate n false) q ≡ false
none_passed n q = ⊎_elim
    (λ lt. get_or-replicate n q false false lt)
    (λ le. get_or_past (replicate n false) q false (let l : length (replicate n false) ≡ n = length-replicate n false in omega arith))
    (cases_lt q n)

pub Passes-start : (g : List (List ℕ)) (marks : List Bool) (o : List ℕ) → o ≡ [] → ((q : ℕ) → is_passed marks q ≡ false) → Passes g marks o
Passes-start g marks o empty none = subst (Passes g marks) (sym empty) (record { marked = none; nodes = refl; once = nothing_twice; so_far = λ more plan. plan })

-- no more nodes are passed than there are
pub length_of_passed : (g : List (List ℕ)) (o : List ℕ) → IsDistinct nat_eq o → list_all (λ q. nat_lt q (length g)) o ≡ true → length o ≤ length g
length_of_passed g o once nodes = length-le_from_distinct_below o (length g) once (λ q h. ltb-true q (length g) (list_all-has (λ m. nat_lt m (length g)) o q nodes h))

-- by the marks the same nodes can be passed
same_ready : (g : List (List ℕ)) (marks : List Bool) (o : List ℕ) → ((q : ℕ) → is_passed marks q ≡ has o q) → (n : ℕ) → can_pass g marks n ≡ is_ready g o n
same_ready g marks o e n = λ i. nat_lt n (length g) && (not (e n i) && list_all (λ q. e q i) (row g n))

pub plan_ends : (g : List (List ℕ)) (marks : List Bool) (o : List ℕ) → Passes g marks o → ((n : ℕ) → can_pass g marks n ≡ false) → IsPlanAfter g o []
plan_ends g marks o passes none n = sym (same_ready g marks o passes.marked n) ∙ none n

module _ (g : List (List ℕ)) (marks : List Bool) (o : List ℕ) (n : ℕ) (before : Passes g marks o) (can : can_pass g marks n ≡ true) where
  fresh : has o n ≡ false
  fresh = sym (before.marked n) ∙ can_fresh g marks n can

  nodes_more : list_all (λ q. nat_lt q (length g)) (o ++ n ∷ []) ≡ true
  nodes_more = list_all-append (λ q. nat_lt q (length g)) o (n ∷ []) ∙ rw (before.nodes, lt-ltb n (length g) (can_within g marks n can)) refl

  once_more : IsDistinct nat_eq (o ++ n ∷ [])
  once_more = IsDistinct-push nat_eq_equiv o n before.once fresh

  pub room_for_one : length o + 1 ≤ length g
  room_for_one =
      let bound = length_of_passed g (o ++ n ∷ []) once_more nodes_more in
      let more = length-append o (n ∷ []) in omega arith

  marked_more : n < length marks → (q : ℕ) → is_passed (set marks n true) q ≡ has (o ++ n ∷ []) q
  marked_more within q = ⊎_elim
      (λ e. ap (is_passed (set marks n true)) e ∙ get_or-set_same marks n true false within ∙ sym (has-push o n q ∙ rw (eq-eqb q n e) (or_true (has o q))))
      (λ off. get_or-set_other marks n q true false off ∙ before.marked q ∙ sym (has-push o n q ∙ rw (ne_eqb q n off) (or_false (has o q))))
      (cases_eq q n)
    where
      or_true : (b : Bool) → (b || true) ≡ true
      or_true true = refl
      or_true false = refl

      or_false : (b : Bool) → (b || false) ≡ b
      or_false true = refl
      or_false false = refl

  pub Passes-more : length marks ≡ length g → ((m : ℕ) → m < n → can_pass g marks m ≡ false) → Passes g (set marks n true) (o ++ n ∷ [])
  Passes-more same least = record {
    marked = marked_more (let a = can_within g marks n can in omega arith);
    nodes = nodes_more;
    once = once_more;
    so_far = λ more plan.
        subst (IsPlan g) (sym (append_assoc o (n ∷ []) more))
        (before.so_far (n ∷ more)
        (record { ready = sym (same_ready g marks o before.marked n) ∙ can; least = λ m lt. sym (same_ready g marks o before.marked m) ∙ least m lt }, plan));
  }

-- two plans are equal
pub one_plan_after : (g : List (List ℕ)) (p a b : List ℕ) → IsPlanAfter g p a → IsPlanAfter g p b → a ≡ b
one_plan_after g p [] [] x y = refl
one_plan_after g p [] (m ∷ b) x y = absurd (true≢false (sym y.0.ready ∙ x m))
one_plan_after g p (n ∷ a) [] x y = absurd (true≢false (sym x.0.ready ∙ y n))
one_plan_after g p (n ∷ a) (m ∷ b) x y = ⊎_elim (same (one_plan_after g (p ++ n ∷ []) a b x.1)) other (cases_order n m)
  where
    same : (IsPlanAfter g (p ++ n ∷ []) b → a ≡ b) → n ≡ m → n ∷ a ≡ m ∷ b
    same rest e =
        let P : ℕ → Type 0 = λ k. IsPlanAfter g (p ++ k ∷ []) b in
        let tail = rest (subst P (sym e) y.1) in
        (λ i. e i ∷ tail i)

    other : (n < m) ⊎ (m < n) → n ∷ a ≡ m ∷ b
    other = ⊎_elim (λ lt. absurd (true≢false (sym x.0.ready ∙ y.0.least n lt))) (λ lt. absurd (true≢false (sym y.0.ready ∙ x.0.least m lt)))
