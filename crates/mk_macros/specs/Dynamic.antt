-- What dynamic macros stand for (make(1S), "Dynamic Macros"; POSIX make, "Internal Macros"; `$|`: GNU make manual, "Automatic Variables").
use Rattle.std.specs.Prelude.{ℕ, ◌==◌, if◌then◌else◌, List, [], ◌∷◌, map, Option, Some, None, option_map}
use Rattle.std.specs.Borrow.{Bor}
use Rattle.std.specs.List.{join_with_byte}
use Rattle.mk_macros.specs.Words.{to_directory, to_file, changed_words}
use Rattle.mk_macros.specs.declared.dynamic.RecipeNames.{RecipeNames}
use Rattle.mk_macros.specs.declared.dynamic.Dynamic.{Dynamic}
use Rattle.mk_macros.specs.declared.dynamic.Dynamic.TheVariants.{RuleLine, RecipeLine}

-- the words, where there are any
abbrev pub words_in : Option (Bor (List (Bor (List ℕ)))) → Option (List (List ℕ))
words_in found = option_map (λ words. map (λ word. word.now) words.now) found

-- the value of the macro of this one byte: `@`, `<`, `*` or `?`, and `^`, `+` or `|` where they are dynamic macros
abbrev pub whole_value : RecipeNames → ℕ → Option (List ℕ)
whole_value names sign =
    if sign == 64 then Some names.target.now
    else (if sign == 60 then Some names.source.now
    else (if sign == 42 then Some names.stem.now
    else (if sign == 63 then Some (join_with_byte 32 (map (λ name. name.now) names.newer.now))
    else (if sign == 94 then option_map (join_with_byte 32) (words_in names.once)
    else (if sign == 43 then option_map (join_with_byte 32) (words_in names.repeated)
    else (if sign == 124 then option_map (join_with_byte 32) (words_in names.order_only)
    else None))))))

-- the value of `sign part`, where part is D for the directories of the words and F for their files
abbrev pub part_value : RecipeNames → (sign part : ℕ) → Option (List ℕ)
part_value names sign part =
    if part == 68 then option_map (changed_words to_directory) (whole_value names sign)
    else (if part == 70 then option_map (changed_words to_file) (whole_value names sign)
    else None)

-- the value of a dynamic macro in a recipe line: of one byte, or of one byte and D or F
abbrev pub recipe_value : RecipeNames → (name : List ℕ) → Option (List ℕ)
recipe_value names [] = None
recipe_value names (sign ∷ []) = whole_value names sign
recipe_value names (sign ∷ part ∷ []) = part_value names sign part
recipe_value names (sign ∷ part ∷ b ∷ bs) = None

-- the value of a dynamic macro; in a rule line there are none
abbrev pub dynamic_value : Dynamic → (name : List ℕ) → Option (List ℕ)
dynamic_value RuleLine name = None
dynamic_value (RecipeLine names) name = recipe_value names name
