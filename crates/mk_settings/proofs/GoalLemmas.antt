-- The first targets of lines, one line at a time.
use Rattle.std.proofs.Common.{◌≡◌, ℕ, Bool, true, List, [], ◌∷◌, ◌++◌, take, filter, Some, None, refl, sym, ap, ◌∙◌}
use Rattle.std.specs.Prelude.{slice_get}
use Rattle.mk_settings.specs.Goals.{first_goal, first_goals}
use Rattle.mk_rule_lines.specs.declared.rule_line.RuleLine.{RuleLine}

-- of no names none is the first
pub no_first : (p : List ℕ → Bool) (names : List (List ℕ)) → slice_get names 0 ≡ None → filter p (take 1 names) ≡ []
no_first p [] e = refl
no_first p (n ∷ names) e = cc

-- the first name, where it passes
pub first_passes : (p : List ℕ → Bool) (names : List (List ℕ)) (t : List ℕ) → slice_get names 0 ≡ Some t → p t ≡ true → filter p (take 1 names) ≡ t ∷ []
first_passes p [] t e passes = cc
first_passes p (n ∷ names) t e passes =
    let same : n ≡ t = cc in
    let first : p n ≡ true = ap p same ∙ passes in
    simp first (ap (λ m. m ∷ []) same)

module _ (suffixes : List (List ℕ)) (l : RuleLine) (left : List RuleLine) where
  -- the first line's goal is the first of all
  pub found_first : (t : List ℕ) → t ∷ [] ≡ first_goal suffixes l → take 1 (first_goals suffixes (l ∷ left)) ≡ t ∷ []
  found_first t e = ap (λ goals. take 1 (goals ++ first_goals suffixes left)) (sym e)

  -- a line without one is passed over
  pub none_first : [] ≡ first_goal suffixes l → first_goals suffixes (l ∷ left) ≡ first_goals suffixes left
  none_first e = ap (λ goals. goals ++ first_goals suffixes left) (sym e)
