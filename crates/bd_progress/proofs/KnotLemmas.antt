-- Nodes each of which has one of them as a prerequisite lead into a cycle.
use Rattle.std.proofs.Common.{◌≡◌, ℕ, zero, suc, ◌+◌, ◌<◌, ◌≤◌, Bool, true, false, ◌&&◌, ◌||◌, nat_eq, nat_lt, nat_le, List, [], ◌∷◌, ◌++◌, length, refl, sym, ap, ◌∙◌, subst, ⊎_elim, arith, eq-eqb, eqb-true, ltb-true, lt-ltb, leb-true, le-leb, true≢false, length-append}
use Rattle.std.proofs.lemmas.Bool.{cases_lt}
use Rattle.std.proofs.lemmas.Cmp.{nat_eq_equiv}
use Rattle.std.proofs.lemmas.List.Folds.{list_all-append}
use Rattle.std.proofs.lemmas.Map.Keys.{IsDistinct-push}
use Rattle.std.specs.List.{list_all, IsDistinct}
use Rattle.mk_graph.specs.Edges.{row, has, is_closed}
use Rattle.mk_graph.specs.Cycle.{HasCycle}
use Rattle.mk_graph.specs.Ring.{IsRing}
use Rattle.mk_graph.proofs.RowLemmas.{list_all-has, list_all_weaker}
use Rattle.mk_graph.proofs.PlanLemmas.{length_of_passed}
use Rattle.mk_graph.proofs.CycleLemmas.{LeadsTo, leads_on, ring_of_path, once_behind, cycle_from_ring, closed_row}

or_true : (b : Bool) → (b || true) ≡ true
or_true true = refl
or_true false = refl

pub has-head : (x : ℕ) (xs : List ℕ) → has (x ∷ xs) x ≡ true
has-head x xs = ap (λ b. b || has xs x) (eq-eqb x x refl)

-- a number that a test refuses
pub first_refused : (p : ℕ → Bool) (xs : List ℕ) → list_all p xs ≡ false → (m : ℕ) × (has xs m ≡ true) × (p m ≡ false)
first_refused p [] h = absurd (true≢false h)
first_refused p (x ∷ xs) h = by (first_refused p xs) (p x) refl
  where
    by : (list_all p xs ≡ false → (m : ℕ) × (has xs m ≡ true) × (p m ≡ false)) → (b : Bool) → p x ≡ b → (m : ℕ) × (has (x ∷ xs) m ≡ true) × (p m ≡ false)
    by rest false e = (x, has-head x xs, e)
    by rest true e =
        let r = rest (sym (ap (λ b. b && list_all p xs) e) ∙ h) in
        (r.0, ap (λ b. nat_eq r.0 x || b) r.1 ∙ or_true (nat_eq r.0 x), r.2)

-- a list at a number that it has
split_at_number : (xs : List ℕ) (n : ℕ) → has xs n ≡ true → (front : List ℕ) × (behind : List ℕ) × (xs ≡ front ++ n ∷ behind)
split_at_number [] n h = absurd (true≢false (sym h))
split_at_number (x ∷ xs) n h = by (split_at_number xs n) (nat_eq n x) refl
  where
    by : (has xs n ≡ true → (front : List ℕ) × (behind : List ℕ) × (xs ≡ front ++ n ∷ behind)) → (b : Bool) → nat_eq n x ≡ b
        → (front : List ℕ) × (behind : List ℕ) × (x ∷ xs ≡ front ++ n ∷ behind)
    by rest true e = ([], xs, ap (λ k. k ∷ xs) (sym (eqb-true n x e)))
    by rest false e = let r = rest (sym (ap (λ b. b || has xs n) e) ∙ h) in (x ∷ r.0, r.1, ap (λ l. x ∷ l) r.2)

-- a list that isn't empty at its least number
record AtLeast (xs : List ℕ) : Type 0 where
  front : List ℕ
  least : ℕ
  behind : List ℕ
  parts : xs ≡ front ++ least ∷ behind
  below : list_all (nat_le least) xs ≡ true

at_least : (x : ℕ) (xs : List ℕ) → AtLeast (x ∷ xs)
at_least x [] = record { front = []; least = x; behind = []; parts = refl; below = rw (le-leb x x (omega arith)) refl }
at_least x (y ∷ xs) = by (at_least y xs)
  where
    by : AtLeast (y ∷ xs) → AtLeast (x ∷ (y ∷ xs))
    by r = ⊎_elim less more (cases_lt r.least x)
      where
        less : r.least < x → AtLeast (x ∷ (y ∷ xs))
        less lt = record {
          front = x ∷ r.front;
          least = r.least;
          behind = r.behind;
          parts = ap (λ l. x ∷ l) r.parts;
          below = ap (λ b. b && list_all (nat_le r.least) (y ∷ xs)) (le-leb r.least x (omega arith)) ∙ r.below;
        }

        more : x ≤ r.least → AtLeast (x ∷ (y ∷ xs))
        more le = record {
          front = [];
          least = x;
          behind = y ∷ xs;
          parts = refl;
          below = ap (λ b. b && list_all (nat_le x) (y ∷ xs)) (le-leb x x (omega arith))
              ∙ list_all_weaker (nat_le r.least) (nat_le x) (λ n h. let above = leb-true r.least n h in le-leb x n (omega arith)) (y ∷ xs) r.below;
        }

nothing_twice : IsDistinct nat_eq []
unfolding IsDistinct
nothing_twice = tt

-- a path that meets itself
cycle_on_path : (g : List (List ℕ)) (path : List ℕ) (at : ℕ) → LeadsTo g path at → IsDistinct nat_eq path → has path at ≡ true → HasCycle g
cycle_on_path g path at leads once met =
    let parts = split_at_number path at met in
    let ring : IsRing g (at ∷ parts.1) = ring_of_path g parts.0 at parts.1 (subst (λ l. LeadsTo g l at) parts.2 leads) in
    let ring_once : IsDistinct nat_eq (at ∷ parts.1) = once_behind parts.0 (at ∷ parts.1) (subst (IsDistinct nat_eq) parts.2 once) in
    let turn = at_least at parts.1 in
    let cycle : List ℕ = turn.least ∷ ((turn.behind ++ turn.front) ++ turn.least ∷ []) in
    (cycle, cycle_from_ring g (at ∷ parts.1) turn.front turn.least turn.behind cycle turn.parts ring ring_once turn.below refl)

module _ (g : List (List ℕ)) (closed : is_closed g ≡ true) (knot : ℕ → Bool)
    (onward : (n : ℕ) → n < length g → knot n ≡ true → (m : ℕ) × (has (row g n) m ≡ true) × (knot m ≡ true)) where
  walk : (fuel : ℕ) (path : List ℕ) (at : ℕ) → length g < fuel + length path → IsDistinct nat_eq path → list_all (λ q. nat_lt q (length g)) path ≡ true
      → LeadsTo g path at → at < length g → knot at ≡ true → HasCycle g
  walk zero path at enough once nodes leads place tied = let bound = length_of_passed g path once nodes in absurd (omega arith)
  walk (suc fuel) path at enough once nodes leads place tied = by (walk fuel (path ++ at ∷ [])) (has path at) refl
    where
      by : ((next : ℕ) → length g < fuel + length (path ++ at ∷ []) → IsDistinct nat_eq (path ++ at ∷ []) → list_all (λ q. nat_lt q (length g)) (path ++ at ∷ []) ≡ true
          → LeadsTo g (path ++ at ∷ []) next → next < length g → knot next ≡ true → HasCycle g) → (b : Bool) → has path at ≡ b → HasCycle g
      by go true met = cycle_on_path g path at leads once met
      by go false fresh =
          let next = onward at place tied in
          let longer = length-append path (at ∷ []) in
          go next.0 (omega arith) (IsDistinct-push nat_eq_equiv path at once fresh)
          (list_all-append (λ q. nat_lt q (length g)) path (at ∷ []) ∙ rw (nodes, lt-ltb at (length g) place) refl)
          (leads_on g path at next.0 leads next.1)
          (ltb-true next.0 (length g) (list_all-has (λ m. nat_lt m (length g)) (row g at) next.0 (closed_row g closed at place) next.1))
          next.2

  pub cycle_from_knot : (n : ℕ) → n < length g → knot n ≡ true → HasCycle g
  cycle_from_knot n place tied = walk (length g + 1) [] n (omega arith) nothing_twice refl tt place tied
