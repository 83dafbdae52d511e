-- What makes below are told in the wide profile (POSIX make, MAKEFLAGS): a word of letters with its hyphen, long options, the words of job slots, and
-- behind `--` the definitions. That form is read alike by GNU make and by BSD make. The profile is told by a variable of its own, since
-- BSD make ends at an option that it doesn't know. Own.
use Rattle.std.specs.Prelude.{ℕ, Bool, not, ◌||◌, List, [], ◌∷◌, ◌++◌, Option, Some, None, codes, filter, find}
use Rattle.std.specs.List.{flat_map}
use Rattle.std.specs.Option.{option_map_or}
use Rattle.std.specs.Str.{bytes_eq}
use Rattle.bd_lists.specs.declared.recipe.Variable.{Variable}
use Rattle.jb_flags.specs.Words.{quoted}
use Rattle.jb_flags.specs.declared.handing.Handed.{Handed}

abbrev pub variable : (name value : List ℕ) → Variable
variable name value = record { name = name; value = value }

abbrev pub is_makeflags : Variable → Bool
is_makeflags v = bytes_eq (codes "MAKEFLAGS") v.name

-- a definition that recipes get as a variable too: the empty name can't be one's, and MAKEFLAGS is what is told here
abbrev pub is_passed_on : Variable → Bool
is_passed_on v = not (bytes_eq v.name [] || bytes_eq v.name (codes "MAKEFLAGS"))

-- a definition as one word, behind a blank
abbrev pub definition_word : Variable → List ℕ
definition_word v = 32 ∷ quoted v.name ++ 61 ∷ quoted v.value

-- words behind the one that ends the options, where there are any
abbrev pub behind_options : (words : List ℕ) → List ℕ
behind_options [] = []
behind_options (b ∷ words) = codes " --" ++ b ∷ words

-- the definitions that recipes get as variables too
abbrev pub definition_words : List Variable → List ℕ
definition_words variables = behind_options (flat_map definition_word (filter is_passed_on variables))

-- the words of job slots of a recipe whose MAKEFLAGS is taken out, or is this value
abbrev pub own_slot_words : Handed → (value : List ℕ) → List ℕ
own_slot_words handed [] = handed.alone.items
own_slot_words handed (b ∷ value) = b ∷ value

-- the words of job slots of a line that may have some: the recipe's own, or those of the make above where it has MAKEFLAGS as it came
abbrev pub slot_words : Handed → List Variable → List ℕ
slot_words handed env = option_map_or (λ v. own_slot_words handed v.value) (find is_makeflags env) handed.slots.items

abbrev pub makeflags : Handed → (slot_words : List ℕ) → List ℕ
makeflags handed slot_words = handed.options.items ++ slot_words ++ handed.definitions.items

-- what makes below are told, with these words of job slots: MAKEFLAGS, how many makes are above them (GNU make, MAKELEVEL), and the profile
abbrev pub handed_variables : Handed → (slot_words : List ℕ) → List Variable
handed_variables handed slot_words =
    variable (codes "MAKEFLAGS") (makeflags handed slot_words)
    ∷ variable (codes "MAKELEVEL") handed.level.items
    ∷ variable (codes "DMK_PROFILE") (codes "posix")
    ∷ []
