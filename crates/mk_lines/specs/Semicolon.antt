-- Rule lines whose recipe begins behind a `;` of the line itself: told by what such a line is made of, and by the places of its signs.
use Rattle.std.specs.Prelude.{◌≡◌, ℕ, Bool, false, not, ◌&&◌, ◌||◌, ◌==◌, List, ◌∷◌, ◌++◌, drop, Option, Some, None, ◌+◌, take, slice_index}
use Rattle.std.specs.List.{list_any}
use Rattle.mk_lines.specs.Text.{begins_with, is_hash}
use Rattle.mk_lines.specs.Quoted.{without_quoted}
use Rattle.mk_lines.specs.declared.reference.Place.TheVariants.{Outside}
use Rattle.mk_lines.specs.References.{Lacks, Whole, IsCutAsSeen, first_outside}

-- behind `::` the sign of a definition ends: `=` or `:=`
abbrev pub ends_sign : List ℕ → Bool
ends_sign right = begins_with 61 right || (begins_with 58 right && begins_with 61 (drop 1 right))

-- behind the `:` of a line the sign of a definition ends: `=`, `:=` or `::=`
abbrev pub ends_definition : (right : List ℕ) → Bool
ends_definition right = ends_sign right || (begins_with 58 right && ends_sign (drop 1 right))

-- behind the `:` of a rule line its recipe begins, behind a `;` outside references
abbrev pub OpensBehind : (right : List ℕ) → Type 0
OpensBehind right = (before : List ℕ) × (recipe : List ℕ) × (right ≡ before ++ 59 ∷ recipe) × Whole 59 59 before × Lacks 35 before

-- a rule line whose recipe begins behind a `;`, which no comment stands before: its rest is the shell's, whatever `#` stands there (POSIX
-- make, "Target Rules"; GNU make; that a `\#` before the `;` begins a comment too: own)
abbrev pub OpensAsSeen : (text : List ℕ) → Type 0
OpensAsSeen text =
    (left : List ℕ) × (right : List ℕ) × IsCutAsSeen 58 text left right × (ends_definition right ≡ false) × OpensBehind right × Lacks 35 left

-- so where a line has quoted colons
abbrev pub OpensRecipe : (text : List ℕ) → Type 0
OpensRecipe text = OpensAsSeen (without_quoted text)

-- By the places of its signs

-- behind these bytes of a rule line, up to its first `;` outside references, no comment begins
abbrev pub recipe_behind : List ℕ → Option ℕ → Bool
recipe_behind right None = false
recipe_behind right (Some at) = not (list_any is_hash (take at right))

-- with its first `=` or `:` outside references at this place, the line has a recipe behind `;`
abbrev pub opens_at : List ℕ → Option ℕ → Bool
opens_at text None = false
opens_at text (Some at) =
    slice_index text at == 58 && (not (ends_definition (drop (at + 1) text)) && (not (list_any is_hash (take at text))
    && recipe_behind (drop (at + 1) text) (first_outside 59 59 Outside (drop (at + 1) text))))

unfoldable pub opens_recipe : List ℕ → Bool
opens_recipe text = opens_at (without_quoted text) (first_outside 61 58 Outside (without_quoted text))
