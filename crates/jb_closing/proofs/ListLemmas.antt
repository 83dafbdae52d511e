-- Lists with one element more.
use Rattle.std.proofs.Common.{◌≡◌, ◌⊎◌, ℕ, zero, suc, ◌+◌, ◌<◌, Bool, cond, List, [], ◌∷◌, ◌++◌, length, filter, take, get_or, set, Some, slice_get, refl, sym, ap, ◌∙◌, inl, inr, subst, ⊎_elim, arith}
use Rattle.std.proofs.lemmas.Bool.{cases_lt}
use Rattle.std.proofs.lemmas.List.{take_more}
use Rattle.std.proofs.lemmas.List.Elements.{filter-append}
use Rattle.std.proofs.lemmas.Option.{same_Some}

module _ {X : Type 0} where
  pub at_end : (xs : List X) (x : X) → slice_get (xs ++ x ∷ []) (length xs) ≡ Some x
  at_end [] x = refl
  at_end (y ∷ xs) x = at_end xs x

  pub at_before : (xs : List X) (x : X) (i : ℕ) → i < length xs → slice_get (xs ++ x ∷ []) i ≡ slice_get xs i
  at_before [] x i lt = absurd (omega (arith, lt))
  at_before (y ∷ xs) x zero lt = refl
  at_before (y ∷ xs) x (suc i) lt = at_before xs x i (omega (arith, lt))

  -- what stands in a list with one element more stood there before, or is the new one
  pub at_push_cases : (xs : List X) (x : X) (i : ℕ) (y : X) → slice_get (xs ++ x ∷ []) i ≡ Some y
      → ((i < length xs) × (slice_get xs i ≡ Some y)) ⊎ ((i ≡ length xs) × (x ≡ y))
  at_push_cases [] x zero y there = inr (refl, same_Some x y there)
  at_push_cases [] x (suc i) y there = cc
  at_push_cases (z ∷ xs) x zero y there = inl (omega arith, there)
  at_push_cases (z ∷ xs) x (suc i) y there =
      ⊎_elim (λ before. inl (omega (arith, before.0), before.1)) (λ new. inr (omega (arith, new.0), new.1)) (at_push_cases xs x i y there)

  -- a filtered beginning with one element more
  pub filter_more : (p : X → Bool) (xs : List X) (i : ℕ) (d : X) → i < length xs
      → filter p (take (i + 1) xs) ≡ filter p (take i xs) ++ cond (p (get_or xs i d)) (get_or xs i d ∷ []) []
  filter_more p xs i d lt = ap (filter p) (take_more xs i d lt) ∙ filter-append p (take i xs) (get_or xs i d ∷ [])

  pub at_set : (xs : List X) (i : ℕ) (y : X) → i < length xs → slice_get (set xs i y) i ≡ Some y
  at_set [] i y lt = absurd (omega (arith, lt))
  at_set (x ∷ xs) zero y lt = refl
  at_set (x ∷ xs) (suc i) y lt = at_set xs i y (omega (arith, lt))

  pub at_set_other : (xs : List X) (i j : ℕ) (y : X) → (i ≡ j → ⊥) → slice_get (set xs i y) j ≡ slice_get xs j
  at_set_other [] i j y apart = refl
  at_set_other (x ∷ xs) zero zero y apart = absurd (apart refl)
  at_set_other (x ∷ xs) zero (suc j) y apart = refl
  at_set_other (x ∷ xs) (suc i) zero y apart = refl
  at_set_other (x ∷ xs) (suc i) (suc j) y apart = at_set_other xs i j y (λ e. apart (ap suc e))

  -- each place below a number has its value: so it is below the next number, once its value is pushed
  pub at_push : (value : ℕ → X) (xs : List X) (x : X) (n : ℕ) → length xs ≡ n → x ≡ value n
      → ((i : ℕ) → i < n → slice_get xs i ≡ Some (value i)) → (i : ℕ) → i < n + 1 → slice_get (xs ++ x ∷ []) i ≡ Some (value i)
  at_push value xs x n long is each i within =
      ⊎_elim (λ before. at_before xs x i (omega (arith, before, long)) ∙ each i before)
      (λ past.
      let last : length xs ≡ i = omega (arith, long, within, past) in
      subst (λ (j : ℕ). slice_get (xs ++ x ∷ []) j ≡ Some (value j)) last (at_end xs x ∙ ap Some (is ∙ ap value (sym long))))
      (cases_lt i n)
