-- The plan of a graph without a cycle has each node once: a node that isn't passed leads into a cycle.
use Rattle.std.proofs.Common.{◌≡◌, ◌≢◌, ℕ, ◌+◌, ◌<◌, ◌≤◌, Bool, true, false, not, ◌&&◌, ◌||◌, ◌⊎◌, nat_eq, nat_lt, nat_le, List, [], ◌∷◌, ◌++◌, length, suc, zero, refl, sym, ap, ◌∙◌, subst, ⊎_elim, arith, eq-eqb, ne_eqb, eqb-true, ltb-true, lt-ltb, leb-true, le-leb, true≢false, length-append}
use Rattle.std.proofs.lemmas.Bool.{cases_eq, cases_lt, and_parts, not-true}
use Rattle.std.proofs.lemmas.Cmp.{nat_eq_equiv}
use Rattle.std.proofs.lemmas.List.Folds.{list_all-append}
use Rattle.std.proofs.lemmas.Map.Keys.{IsDistinct-push}
use Rattle.std.specs.Bool.{if◌then◌else◌}
use Rattle.std.specs.List.{list_all, IsDistinct}
use Rattle.mk_graph.specs.Edges.{row, has, times, is_closed}
use Rattle.mk_graph.specs.Plan.{IsPlanAfter, IsPlan, WholePlan}
use Rattle.mk_graph.specs.Cycle.{HasCycle}
use Rattle.mk_graph.specs.Ring.{IsRing}
use Rattle.mk_graph.proofs.RowLemmas.{has-push, times-cons, times_from_has, list_all-has, list_all_weaker}
use Rattle.mk_graph.proofs.PlanLemmas.{length_of_passed}
use Rattle.mk_graph.proofs.CycleLemmas.{LeadsTo, leads_on, ring_of_path, once_behind, cycle_from_ring, end_of_plan, closed_row}

or_true : (b : Bool) → (b || true) ≡ true
or_true true = refl
or_true false = refl

has-head : (x : ℕ) (xs : List ℕ) → has (x ∷ xs) x ≡ true
has-head x xs = ap (λ b. b || has xs x) (eq-eqb x x refl)

-- a number that a test refuses
first_refused : (p : ℕ → Bool) (xs : List ℕ) → list_all p xs ≡ false → (m : ℕ) × (has xs m ≡ true) × (p m ≡ false)
first_refused p [] h = absurd (true≢false h)
first_refused p (x ∷ xs) h = by (first_refused p xs) (p x) refl
  where
    by : (list_all p xs ≡ false → (m : ℕ) × (has xs m ≡ true) × (p m ≡ false)) → (b : Bool) → p x ≡ b → (m : ℕ) × (has (x ∷ xs) m ≡ true) × (p m ≡ false)
    by rest false e = (x, has-head x xs, e)
    by rest true e =
        let r = rest (sym (ap (λ b. b && list_all p xs) e) ∙ h) in
        (r.0, ap (λ b. nat_eq r.0 x || b) r.1 ∙ or_true (nat_eq r.0 x), r.2)

-- a list at a number that it has
split_at_number : (xs : List ℕ) (n : ℕ) → has xs n ≡ true → (front : List ℕ) × (behind : List ℕ) × (xs ≡ front ++ n ∷ behind)
split_at_number [] n h = absurd (true≢false (sym h))
split_at_number (x ∷ xs) n h = by (split_at_number xs n) (nat_eq n x) refl
  where
    by : (has xs n ≡ true → (front : List ℕ) × (behind : List ℕ) × (xs ≡ front ++ n ∷ behind)) → (b : Bool) → nat_eq n x ≡ b
        → (front : List ℕ) × (behind : List ℕ) × (x ∷ xs ≡ front ++ n ∷ behind)
    by rest true e = ([], xs, ap (λ k. k ∷ xs) (sym (eqb-true n x e)))
    by rest false e = let r = rest (sym (ap (λ b. b || has xs n) e) ∙ h) in (x ∷ r.0, r.1, ap (λ l. x ∷ l) r.2)

-- a list at its least number
split_at_least : (x : ℕ) (xs : List ℕ) → (front : List ℕ) × (m : ℕ) × (behind : List ℕ) × (x ∷ xs ≡ front ++ m ∷ behind) × (list_all (nat_le m) (x ∷ xs) ≡ true)
split_at_least x [] = ([], x, [], refl, rw (le-leb x x (omega arith)) refl)
split_at_least x (y ∷ xs) = by (split_at_least y xs)
  where
    by : (front : List ℕ) × (m : ℕ) × (behind : List ℕ) × (y ∷ xs ≡ front ++ m ∷ behind) × (list_all (nat_le m) (y ∷ xs) ≡ true)
        → (front : List ℕ) × (m : ℕ) × (behind : List ℕ) × (x ∷ (y ∷ xs) ≡ front ++ m ∷ behind) × (list_all (nat_le m) (x ∷ (y ∷ xs)) ≡ true)
    by r = ⊎_elim less more (cases_lt r.1 x)
      where
        less : r.1 < x → (front : List ℕ) × (m : ℕ) × (behind : List ℕ) × (x ∷ (y ∷ xs) ≡ front ++ m ∷ behind) × (list_all (nat_le m) (x ∷ (y ∷ xs)) ≡ true)
        less lt = (x ∷ r.0, r.1, r.2, ap (λ l. x ∷ l) r.3, ap (λ b. b && list_all (nat_le r.1) (y ∷ xs)) (le-leb r.1 x (omega arith)) ∙ r.4)

        more : x ≤ r.1 → (front : List ℕ) × (m : ℕ) × (behind : List ℕ) × (x ∷ (y ∷ xs) ≡ front ++ m ∷ behind) × (list_all (nat_le m) (x ∷ (y ∷ xs)) ≡ true)
        more le = (
          [],
          x,
          y ∷ xs,
          refl,
          ap (λ b. b && list_all (nat_le x) (y ∷ xs)) (le-leb x x (omega arith))
              ∙ list_all_weaker (nat_le r.1) (nat_le x) (λ n h. let above = leb-true r.1 n h in le-leb x n (omega arith)) (y ∷ xs) r.4,
        )

nothing_twice : IsDistinct nat_eq []
unfolding IsDistinct
nothing_twice = tt

-- a path that meets itself
cycle_on_path : (g : List (List ℕ)) (path : List ℕ) (at : ℕ) → LeadsTo g path at → IsDistinct nat_eq path → has path at ≡ true → HasCycle g
cycle_on_path g path at leads once met =
    let parts = split_at_number path at met in
    let ring : IsRing g (at ∷ parts.1) = ring_of_path g parts.0 at parts.1 (subst (λ l. LeadsTo g l at) parts.2 leads) in
    let ring_once : IsDistinct nat_eq (at ∷ parts.1) = once_behind parts.0 (at ∷ parts.1) (subst (IsDistinct nat_eq) parts.2 once) in
    let turn = split_at_least at parts.1 in
    let cycle : List ℕ = turn.1 ∷ ((turn.2 ++ turn.0) ++ turn.1 ∷ []) in
    (cycle, cycle_from_ring g (at ∷ parts.1) turn.0 turn.1 turn.2 cycle turn.3 ring ring_once turn.4 refl)

module _ (g : List (List ℕ)) (order : List ℕ) (closed : is_closed g ≡ true) (plan : IsPlan g order) where
  -- a node that isn't passed has a prerequisite that isn't
  onward : (q : ℕ) → q < length g → has order q ≡ false → (m : ℕ) × (has (row g q) m ≡ true) × (has order m ≡ false)
  onward q place out =
      first_refused (has order) (row g q)
      (sym (ap (λ b. b && (not (has order q) && list_all (has order) (row g q))) (lt-ltb q (length g) place) ∙ ap (λ b. not b && list_all (has order) (row g q)) out)
      ∙ end_of_plan g [] order plan q)

  walk : (fuel : ℕ) (path : List ℕ) (at : ℕ) → length g < fuel + length path → IsDistinct nat_eq path → list_all (λ q. nat_lt q (length g)) path ≡ true
      → LeadsTo g path at → at < length g → has order at ≡ false → HasCycle g
  walk zero path at enough once nodes leads place out = let bound = length_of_passed g path once nodes in absurd (omega arith)
  walk (suc fuel) path at enough once nodes leads place out = by (walk fuel (path ++ at ∷ [])) (has path at) refl
    where
      by : ((next : ℕ) → length g < fuel + length (path ++ at ∷ []) → IsDistinct nat_eq (path ++ at ∷ []) → list_all (λ q. nat_lt q (length g)) (path ++ at ∷ []) ≡ true
          → LeadsTo g (path ++ at ∷ []) next → next < length g → has order next ≡ false → HasCycle g) → (b : Bool) → has path at ≡ b → HasCycle g
      by go true met = cycle_on_path g path at leads once met
      by go false fresh =
          let next = onward at place out in
          let longer = length-append path (at ∷ []) in
          go next.0 (omega arith) (IsDistinct-push nat_eq_equiv path at once fresh)
          (list_all-append (λ q. nat_lt q (length g)) path (at ∷ []) ∙ rw (nodes, lt-ltb at (length g) place) refl)
          (leads_on g path at next.0 leads next.1)
          (ltb-true next.0 (length g) (list_all-has (λ m. nat_lt m (length g)) (row g at) next.0 (closed_row g closed at place) next.1))
          next.2

  all_passed : (HasCycle g → ⊥) → (n : ℕ) → n < length g → has order n ≡ true
  all_passed none n place = by (has order n) refl
    where
      by : (b : Bool) → has order n ≡ b → has order n ≡ true
      by true e = e
      by false e = absurd (none (walk (length g + 1) [] n (omega arith) nothing_twice refl tt place e))

-- ---- how often a plan has a number

module _ (g : List (List ℕ)) (p : List ℕ) (m : ℕ) (order : List ℕ) (plan : IsPlanAfter g p (m ∷ order)) where
  head_parts : (nat_lt m (length g) ≡ true) × ((not (has p m) && list_all (has p) (row g m)) ≡ true)
  head_parts = and_parts (nat_lt m (length g)) (not (has p m) && list_all (has p) (row g m)) plan.0.ready

  head_fresh : has p m ≡ false
  head_fresh = not-true (has p m) (and_parts (not (has p m)) (list_all (has p) (row g m)) head_parts.1).0

  head_place : m < length g
  head_place = ltb-true m (length g) head_parts.0

passed_none : (g : List (List ℕ)) (p order : List ℕ) → IsPlanAfter g p order → (n : ℕ) → has p n ≡ true → times n order ≡ 0
passed_none g p [] plan n h = refl
passed_none g p (m ∷ order) plan n h =
    let fresh = head_fresh g p m order plan in
    let rest = passed_none g (p ++ m ∷ []) order plan.1 n (has-push p m n ∙ ap (λ b. b || nat_eq n m) h) in
    rw (times-cons n m order, ne_eqb n m (λ e. true≢false (sym h ∙ ap (has p) e ∙ fresh))) (omega arith)

passed_once : (g : List (List ℕ)) (p order : List ℕ) → IsPlanAfter g p order → (n : ℕ) → times n order ≤ 1
passed_once g p [] plan n = omega arith
passed_once g p (m ∷ order) plan n = by (passed_once g (p ++ m ∷ []) order plan.1 n) (cases_eq n m)
  where
    by : times n order ≤ 1 → (n ≡ m) ⊎ (n ≢ m) → times n (m ∷ order) ≤ 1
    by rest = ⊎_elim
        (λ e.
        let none = passed_none g (p ++ m ∷ []) order plan.1 n (has-push p m n ∙ ap (λ b. has p n || b) (eq-eqb n m e) ∙ or_true (has p n)) in
        rw (times-cons n m order, eq-eqb n m e) (omega arith))
        (λ ne. rw (times-cons n m order, ne_eqb n m ne) (omega arith))

passed_past : (g : List (List ℕ)) (p order : List ℕ) → IsPlanAfter g p order → (n : ℕ) → length g ≤ n → times n order ≡ 0
passed_past g p [] plan n past = refl
passed_past g p (m ∷ order) plan n past =
    let place = head_place g p m order plan in
    let rest = passed_past g (p ++ m ∷ []) order plan.1 n past in
    rw (times-cons n m order, ne_eqb n m (λ e. absurd (omega arith))) (omega arith)

pub whole_plan : WholePlan
whole_plan = λ g order closed none plan n. each g order closed none plan n (nat_lt n (length g)) refl
  where
    each : (g : List (List ℕ)) (order : List ℕ) → is_closed g ≡ true → (HasCycle g → ⊥) → IsPlan g order → (n : ℕ) → (b : Bool) → nat_lt n (length g) ≡ b
        → times n order ≡ (if b then 1 else 0)
    each g order closed none plan n true e =
        let some = times_from_has n order (all_passed g order closed plan none n (ltb-true n (length g) e)) in
        let once = passed_once g [] order plan n in omega arith
    each g order closed none plan n false e =
        ⊎_elim (λ lt. absurd (true≢false (sym (lt-ltb n (length g) lt) ∙ e))) (λ past. passed_past g [] order plan n past) (cases_lt n (length g))
