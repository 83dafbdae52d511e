-- Which lines say what of a name, each line by itself (make(1S), "Rules" and "Suffix Rules").
use Rattle.std.specs.Prelude.{◌≡◌, ℕ, List, [], ◌∷◌, Some, slice_get}
use Rattle.mk_rule_lines.specs.Kinds.{HasSingleRecipe}
use Rattle.mk_rule_lines.specs.declared.rule_line.RuleLine.{RuleLine}

-- these are the lines of such a kind, in their order
pub data AreLines (Is : RuleLine → Type 0) : (lines found : List RuleLine) → Type 0 where
  no_lines : AreLines Is [] []
  one : {l : RuleLine} {lines found : List RuleLine} → Is l → AreLines Is lines found → AreLines Is (l ∷ lines) (l ∷ found)
  another : {l : RuleLine} {lines found : List RuleLine} → (Is l → ⊥) → AreLines Is lines found → AreLines Is (l ∷ lines) found

-- the line with the number k is of such a kind and has a recipe of which a name has just one
pub record HasRecipeAt (Is : RuleLine → Type 0) (lines : List RuleLine) (k : ℕ) : Type 0 where
  pub line : RuleLine
  pub at : slice_get lines k ≡ Some line
  pub is : Is line
  pub recipe : HasSingleRecipe line
