-- A rule line read byte by byte, up to the `;` behind which its recipe begins. What is found is OpensRecipe of Semicolon.
use Rattle.std.specs.Prelude.{◌≡◌, ℕ, Bool, true, false, ◌&&◌, ◌||◌, ◌==◌, List, [], ◌∷◌, ◌++◌, if◌then◌else◌}
use Rattle.mk_lines.specs.References.{next_place, is_outside}
use Rattle.mk_lines.specs.Quoted.{seen, quotes, seen_from}
use Rattle.mk_lines.specs.declared.reference.Place.{Place}
use Rattle.mk_lines.specs.declared.reference.Place.TheVariants.{Outside}
use Rattle.mk_lines.specs.declared.recipe_search.RecipeSearch.{RecipeSearch}
use Rattle.mk_lines.specs.declared.recipe_search.Stage.{Stage}
use Rattle.mk_lines.specs.declared.recipe_search.Stage.TheVariants.{BeforeSign, FirstColon, SecondColon, ThirdColon, BehindSign, InRecipe, NoRecipe}

-- before any sign, where the byte stands so
unfoldable pub before_sign : Place → ℕ → Stage
before_sign place b =
    if is_outside place && b == 58 then FirstColon
    else (if b == 35 || (is_outside place && b == 61) then NoRecipe else BeforeSign (next_place place b))

-- behind the sign of a rule
unfoldable pub behind_sign : Place → ℕ → Stage
behind_sign place b = if b == 35 then NoRecipe else (if is_outside place && b == 59 then InRecipe else BehindSign (next_place place b))

-- behind a colon that may begin the sign of a definition, where another colon leads to this
unfoldable pub behind_colon : (another : Stage) → ℕ → Stage
behind_colon another b = if b == 61 then NoRecipe else (if b == 58 then another else behind_sign Outside b)

unfoldable pub next_stage : Stage → ℕ → Stage
next_stage (BeforeSign place) b = before_sign place b
next_stage FirstColon b = behind_colon SecondColon b
next_stage SecondColon b = behind_colon ThirdColon b
next_stage ThirdColon b = behind_colon (BehindSign Outside) b
next_stage (BehindSign place) b = behind_sign place b
next_stage InRecipe b = InRecipe
next_stage NoRecipe b = NoRecipe

abbrev pub stage_behind : Stage → List ℕ → Stage
stage_behind stage [] = stage
stage_behind stage (b ∷ bs) = stage_behind (next_stage stage b) bs

abbrev pub is_in_recipe : Stage → Bool
is_in_recipe (BeforeSign _) = false
is_in_recipe FirstColon = false
is_in_recipe SecondColon = false
is_in_recipe ThirdColon = false
is_in_recipe (BehindSign _) = false
is_in_recipe InRecipe = true
is_in_recipe NoRecipe = false

-- no byte leads further
abbrev pub is_settled : Stage → Bool
is_settled (BeforeSign _) = false
is_settled FirstColon = false
is_settled SecondColon = false
is_settled ThirdColon = false
is_settled (BehindSign _) = false
is_settled InRecipe = true
is_settled NoRecipe = true

-- where a line begins: all of a recipe line belongs to the recipe, and the strict profile looks for none behind a `;`
abbrev pub first_stage : (recipe wide : Bool) → Stage
first_stage true wide = InRecipe
first_stage false true = BeforeSign Outside
first_stage false false = NoRecipe

abbrev pub begun : (recipe wide : Bool) → RecipeSearch
begun recipe wide = record { stage = first_stage recipe wide; is_quoted = false }

-- one byte further
abbrev pub step : RecipeSearch → ℕ → RecipeSearch
step search b = record { stage = next_stage search.stage (seen search.is_quoted b); is_quoted = quotes search.is_quoted b }

-- where it comes to by this text
abbrev pub comes_to : RecipeSearch → List ℕ → Stage
comes_to search text = stage_behind search.stage (seen_from search.is_quoted text)

-- so far the search has read this text, from where it started
abbrev pub HasRead : (start : RecipeSearch) (text : List ℕ) (now : RecipeSearch) → Type 0
HasRead start text now = (more : List ℕ) → comes_to now more ≡ comes_to start (text ++ more)
