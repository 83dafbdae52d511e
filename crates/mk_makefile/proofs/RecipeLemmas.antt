-- The lines that say something of a name, and those that have its recipe.
use Rattle.std.specs.Prelude.{slice_get}
use Rattle.std.specs.Bool.{Decides}
use Rattle.std.proofs.Common.{arith, ◌≡◌, ◌∙◌, ◌≤◌, ℕ, zero, suc, ◌+◌, Bool, true, false, cond, ◌||◌, List, [], ◌∷◌, ◌++◌, length, filter, Some, ◌⊎◌, ◌↔◌, inl, inr, refl, sym, ap, subst, bytes_eq}
use Rattle.std.proofs.lemmas.Bool.{both_ways, not-true, not_from_false, or_left, or_right}
use Rattle.std.proofs.lemmas.Option.{same_Some}
use Rattle.mk_makefile.specs.ByName.{AreLines, no_lines, one, another, HasRecipeAt}
use Rattle.mk_rule_lines.specs.Rules.{has, lacks_single, times, recipe_places}
use Rattle.mk_rule_lines.specs.declared.rule_line.RuleLine.{RuleLine}
use Rattle.mk_rule_lines.proofs.KindLemmas.{single_decides}

-- ---- the lines that pass a test

module _ (p : RuleLine → Bool) (Is : RuleLine → Type 0) (each : (l : RuleLine) → Decides (p l) (Is l)) where
  lines_at : (l : RuleLine) (lines : List RuleLine) (b : Bool) → p l ≡ b → AreLines Is lines (filter p lines) →
      AreLines Is (l ∷ lines) (cond b (l ∷ filter p lines) (filter p lines))
  lines_at l lines true e more = one ((each l).0 e) more
  lines_at l lines false e more = another (λ is. both_ways (p l) e ((each l).1 is)) more

  pub are_lines : (lines : List RuleLine) → AreLines Is lines (filter p lines)
  are_lines [] = no_lines
  are_lines (l ∷ lines) = lines_at l lines (p l) refl (are_lines lines)

  told_at : (l : RuleLine) (lines found : List RuleLine) (b : Bool) → p l ≡ b → ((more : List RuleLine) → AreLines Is lines more → filter p lines ≡ more) →
      AreLines Is (l ∷ lines) found → cond b (l ∷ filter p lines) (filter p lines) ≡ found
  told_at l lines found true e same (one {found = more} is rest) = ap (λ ls. l ∷ ls) (same more rest)
  told_at l lines found true e same (another other rest) = absurd (other ((each l).0 e))
  told_at l lines found false e same (one is rest) = absurd (both_ways (p l) e ((each l).1 is))
  told_at l lines found false e same (another other rest) = same found rest

  pub lines_told : (lines found : List RuleLine) → AreLines Is lines found → filter p lines ≡ found
  lines_told [] found no_lines = refl
  lines_told (l ∷ lines) found are = told_at l lines found (p l) refl (lines_told lines) are

-- ---- numbers in a list

abbrev pub Among : ℕ → List ℕ → Type 0
Among j [] = ⊥
Among j (x ∷ xs) = (x ≡ j) ⊎ Among j xs

among_left : (j : ℕ) (xs ys : List ℕ) → Among j xs → Among j (xs ++ ys)
among_left j [] ys is = absurd is
among_left j (x ∷ xs) ys (inl is) = inl is
among_left j (x ∷ xs) ys (inr more) = inr (among_left j xs ys more)

among_right : (j : ℕ) (xs ys : List ℕ) → Among j ys → Among j (xs ++ ys)
among_right j [] ys is = is
among_right j (x ∷ xs) ys is = inr (among_right j xs ys is)

among_cases : (j : ℕ) (xs ys : List ℕ) → Among j (xs ++ ys) → Among j xs ⊎ Among j ys
among_cases j [] ys is = inr is
among_cases j (x ∷ xs) ys (inl is) = inl (inl is)
among_cases j (x ∷ xs) ys (inr more) = elim (among_cases j xs ys more) [ inl left ↦ inl (inr left) | inr right ↦ inr right ]

pub only_one : (xs : List ℕ) → length xs ≤ 1 → (j : ℕ) → Among j xs → xs ≡ j ∷ []
only_one [] short j is = absurd is
only_one (x ∷ []) short j (inl is) = ap (λ n. n ∷ []) is
only_one (x ∷ []) short j (inr none) = absurd none
only_one (x ∷ y ∷ ys) short j is = absurd (omega arith)

pub none_among : (xs : List ℕ) → ((j : ℕ) → Among j xs → ⊥) → xs ≡ []
none_among [] none = refl
none_among (x ∷ xs) none = absurd (none x (inl refl))

-- ---- the numbers of the lines with a recipe

module _ (name : List ℕ) where
  times_at : (k j : ℕ) (t : List ℕ) (ts : List (List ℕ)) (b : Bool) → bytes_eq name t ≡ b → (Among j (times k name ts) → (k ≡ j) × (has name ts ≡ true)) →
      Among j (cond b (k ∷ times k name ts) (times k name ts)) → (k ≡ j) × (has name (t ∷ ts) ≡ true)
  times_at k j t ts true e ih (inl is) = (is, or_left (bytes_eq name t) (has name ts) e)
  times_at k j t ts true e ih (inr more) = ((ih more).0, or_left (bytes_eq name t) (has name ts) e)
  times_at k j t ts false e ih more = ((ih more).0, or_right (bytes_eq name t) (has name ts) (ih more).1)

  times_have : (k j : ℕ) (ts : List (List ℕ)) → Among j (times k name ts) → (k ≡ j) × (has name ts ≡ true)
  times_have k j [] is = absurd is
  times_have k j (t ∷ ts) is = times_at k j t ts (bytes_eq name t) refl (times_have k j ts) is

  had_at : (k : ℕ) (t : List ℕ) (ts : List (List ℕ)) (b : Bool) → bytes_eq name t ≡ b → (has name ts ≡ true → Among k (times k name ts)) →
      has name (t ∷ ts) ≡ true → Among k (cond b (k ∷ times k name ts) (times k name ts))
  had_at k t ts true e ih h = inl refl
  had_at k t ts false e ih h = ih (ap (λ b. b || has name ts) (sym e) ∙ h)

  had_times : (k : ℕ) (ts : List (List ℕ)) → has name ts ≡ true → Among k (times k name ts)
  had_times k [] h = absurd (both_ways false refl h)
  had_times k (t ∷ ts) h = had_at k t ts (bytes_eq name t) refl (had_times k ts) h

  module _ (targets : RuleLine → List (List ℕ)) where
    -- a line, at so many places behind the first, that has the name's recipe and the number j
    record GivesAt (k : ℕ) (lines : List RuleLine) (j : ℕ) : Type 0 where
      place : ℕ
      line : RuleLine
      at : slice_get lines place ≡ Some line
      number : k + place ≡ j
      recipe : lacks_single line ≡ false
      has_it : has name (targets line) ≡ true

    here_at : (k j : ℕ) (l : RuleLine) (lines : List RuleLine) (b : Bool) → lacks_single l ≡ b → Among j (cond b [] (times k name (targets l))) → GivesAt k (l ∷ lines) j
    here_at k j l lines true e is = absurd is
    here_at k j l lines false e is =
        let (same, h) = times_have k j (targets l) is in
        record { place = 0; line = l; at = refl; number = omega (arith, same); recipe = e; has_it = h }

    gives : (k j : ℕ) (lines : List RuleLine) → Among j (recipe_places targets k lines name) → GivesAt k lines j
    gives k j [] is = absurd is
    gives k j (l ∷ lines) is =
        elim (among_cases j (cond (lacks_single l) [] (times k name (targets l))) (recipe_places targets (k + 1) lines name) is) [
          | inl here ↦ here_at k j l lines (lacks_single l) refl here
          | inr more ↦
              let g : GivesAt (k + 1) lines j = gives (k + 1) j lines more in
              record { place = suc g.place; line = g.line; at = g.at; number = (let n = g.number in omega arith); recipe = g.recipe; has_it = g.has_it }
        ]

    given : (k j : ℕ) (lines : List RuleLine) (place : ℕ) (line : RuleLine) → slice_get lines place ≡ Some line → k + place ≡ j → lacks_single line ≡ false →
        has name (targets line) ≡ true → Among j (recipe_places targets k lines name)
    given k j [] place line at number r h = absurd cc
    given k j (l ∷ lines) zero line at number r h =
        let same : l ≡ line = same_Some l line at in
        let full : lacks_single l ≡ false = ap lacks_single same ∙ r in
        let had : has name (targets l) ≡ true = ap (λ (m : RuleLine). has name (targets m)) same ∙ h in
        let n : k ≡ j = omega (arith, number) in
        let here : Among j (times k name (targets l)) = subst (λ (n : ℕ). Among n (times k name (targets l))) n (had_times k (targets l) had) in
        among_left j (cond (lacks_single l) [] (times k name (targets l))) (recipe_places targets (k + 1) lines name)
        (subst (λ (b : Bool). Among j (cond b [] (times k name (targets l)))) (sym full) here)
    given k j (l ∷ lines) (suc place) line at number r h =
        among_right j (cond (lacks_single l) [] (times k name (targets l))) (recipe_places targets (k + 1) lines name)
        (given (k + 1) j lines place line at (omega (arith, number)) r h)

    module _ (Is : RuleLine → Type 0) (each : (l : RuleLine) → Decides (has name (targets l)) (Is l)) (lines : List RuleLine) where
      -- the numbers are those of the lines of this kind that have a recipe
      pub has_recipe : (k : ℕ) → Among k (recipe_places targets 0 lines name) → HasRecipeAt Is lines k
      has_recipe k is =
          let g : GivesAt 0 lines k = gives 0 k lines is in
          let at : g.place ≡ k = (let n = g.number in omega arith) in
          record {
            line = g.line;
            at = subst (λ (n : ℕ). slice_get lines n ≡ Some g.line) at g.at;
            is = (each g.line).0 g.has_it;
            recipe = (single_decides g.line).0 (not_from_false (lacks_single g.line) g.recipe);
          }

      pub had_recipe : (k : ℕ) → HasRecipeAt Is lines k → Among k (recipe_places targets 0 lines name)
      had_recipe k h =
          given 0 k lines k h.line h.at (omega arith) (not-true (lacks_single h.line) ((single_decides h.line).1 h.recipe)) ((each h.line).1 h.is)

      -- where the name has one recipe at most, its line is the one of this number
      pub one_recipe_told : length (recipe_places targets 0 lines name) ≤ 1 → (k : ℕ) → (recipe_places targets 0 lines name ≡ k ∷ []) ↔ HasRecipeAt Is lines k
      one_recipe_told short k = (
        (λ e. has_recipe k (subst (Among k) (sym e) (inl refl))),
        λ h. only_one (recipe_places targets 0 lines name) short k (had_recipe k h),
      )

      pub no_recipe_told : (recipe_places targets 0 lines name ≡ []) ↔ ((k : ℕ) → HasRecipeAt Is lines k → ⊥)
      no_recipe_told = (
        (λ e k h. subst (Among k) e (had_recipe k h)),
        λ none. none_among (recipe_places targets 0 lines name) (λ k is. none k (has_recipe k is)),
      )
