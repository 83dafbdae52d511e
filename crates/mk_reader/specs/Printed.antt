-- How plain items are printed: definitions and rules whose texts the printed lines hold as they are.
use Rattle.std.specs.Prelude.{◌≡◌, ℕ, Bool, true, false, List, [], ◌∷◌, ◌++◌, map, reverse, flat_map, Option, codes}
use Rattle.std.specs.List.{list_any, list_all}
use Rattle.byte_strings.specs.Blanks.{is_blank}
use Rattle.mk_profile.specs.Profile.{is_wide}
use Rattle.mk_profile.specs.declared.profile.Profile.{Profile}
use Rattle.mk_lines.specs.Text.{is_empty, begins_with, is_text}
use Rattle.mk_lines.specs.Lines.{number_after}
use Rattle.mk_lines.specs.References.{Lacks, Whole, Without}
use Rattle.mk_reader.specs.Spelled.{begins_blank, BeginsWithWord, BeginsInclude, HasSpecial, is_refused_with}
use Rattle.mk_lines.specs.Quoted.{signs_in}
use Rattle.mk_reader.specs.Statements.{item_of}
use Rattle.mk_reader.specs.declared.special.SpecialName.{SpecialName}
use Rattle.mk_reader.specs.declared.item.Definition.{Definition}
use Rattle.mk_reader.specs.declared.item.RecipeLine.{RecipeLine}
use Rattle.mk_reader.specs.declared.item.Item.{Item}
use Rattle.mk_reader.specs.declared.item.Item.TheVariants as item
use Rattle.mk_reader.specs.declared.form.UnfinishedRule.{UnfinishedRule}
use Rattle.mk_lines.specs.declared.line.LogicalLine.{LogicalLine}

-- a logical line that is no recipe line
abbrev pub line_of_text : (number : ℕ) (text : List ℕ) → LogicalLine
line_of_text number text = record { number = number; is_recipe = false; text = text }

-- no blank stands at an end
abbrev pub HasBareEnds : List ℕ → Type 0
HasBareEnds text = (begins_blank text ≡ false) × (begins_blank (reverse text) ≡ false)

-- a word that can be defined: no comment, no `=` or `:` outside references, and none that begins an include line
abbrev pub IsPlainName : Profile → List ℕ → Type 0
IsPlainName profile name =
    (is_empty name ≡ false) × (list_any is_blank name ≡ false) × Lacks 35 name × Whole 61 58 (signs_in profile name)
    × ((required : Bool) → BeginsInclude profile name required → ⊥)

-- a value may hold any bytes but a `#`
abbrev pub IsPlainValue : List ℕ → Type 0
IsPlainValue value = Lacks 35 value × HasBareEnds value

-- words that can be targets
abbrev pub ArePlainTargets : Profile → List ℕ → Type 0
ArePlainTargets profile targets =
    (is_empty targets ≡ false) × HasBareEnds targets × Lacks 35 targets × Whole 61 58 (signs_in profile targets)
    × ((word : List ℕ) (required : Bool) → BeginsInclude profile word required → BeginsWithWord targets word → ⊥)

-- words that can be prerequisites: no `;` outside references
abbrev pub ArePlainPrerequisites : List ℕ → Type 0
ArePlainPrerequisites prerequisites = Lacks 35 prerequisites × HasBareEnds prerequisites × Without 59 59 prerequisites

abbrev pub sign : (append : Bool) → List ℕ
sign false = codes " ="
sign true = codes " +="

-- a text behind a space, or nothing
abbrev pub spaced : List ℕ → List ℕ
spaced [] = []
spaced (b ∷ bs) = 32 ∷ b ∷ bs

-- `NAME = VALUE` or `NAME += VALUE`
abbrev pub definition_text : (name : List ℕ) (append : Bool) (value : List ℕ) → List ℕ
definition_text name append value = name ++ (sign append ++ spaced value)

abbrev pub rule_sign : (is_double : Bool) → List ℕ
rule_sign false = codes " :"
rule_sign true = codes " ::"

-- `TARGETS : PREREQUISITES` or `TARGETS :: PREREQUISITES`
abbrev pub rule_text : (is_double : Bool) (targets prerequisites : List ℕ) → List ℕ
rule_text is_double targets prerequisites = targets ++ (rule_sign is_double ++ spaced prerequisites)

-- the wide profile has `::`
abbrev pub HasSign : Profile → (is_double : Bool) → Type 0
HasSign profile is_double = is_double ≡ true → is_wide profile ≡ true

abbrev pub definition_on : (file : List ℕ) (number : ℕ) (name : List ℕ) (append : Bool) (value : List ℕ) → Definition
definition_on file number name append value = record { file = file; line = number; name = name; append = append; value = value; is_fixed = false }

abbrev pub rule_on : (file : List ℕ) (number : ℕ) (special : Option SpecialName) (is_double : Bool) (targets prerequisites : List ℕ) → UnfinishedRule
rule_on file number special is_double targets prerequisites = record {
  special = special;
  rule = record { file = file; line = number; is_double = is_double; targets = targets; prerequisites = prerequisites; recipe = [] };
}

-- Whole makefiles

-- an item without a place, and the lines of its recipe
pub data PlainItem : Type 0 where
  definition : (name : List ℕ) (append : Bool) (value : List ℕ) → PlainItem
  rule : (special : Option SpecialName) (is_double : Bool) (targets prerequisites : List ℕ) (recipe : List (List ℕ)) → PlainItem

abbrev pub lines_of : PlainItem → List (List ℕ)
lines_of (definition name append value) = definition_text name append value ∷ []
lines_of (rule special is_double targets prerequisites recipe) = rule_text is_double targets prerequisites ∷ map (λ text. 9 ∷ text) recipe

-- each line with a newline behind it
abbrev pub printed : List PlainItem → List ℕ
printed items = flat_map (λ line. line ++ 10 ∷ []) (flat_map lines_of items)

-- no newline, and neither a carriage return nor a backslash at the end
abbrev pub IsOwnLine : List ℕ → Type 0
IsOwnLine text = Lacks 10 text × (begins_with 13 (reverse text) ≡ false) × (begins_with 92 (reverse text) ≡ false)

abbrev pub IsPlainRecipe : List (List ℕ) → Type 0
IsPlainRecipe [] = Unit {0}
IsPlainRecipe (text ∷ more) = IsOwnLine (9 ∷ text) × (is_text text ≡ true) × (list_all is_blank text ≡ false) × IsPlainRecipe more

abbrev pub IsPlainItem : Profile → PlainItem → Type 0
IsPlainItem profile (definition name append value) =
    IsPlainName profile name × IsPlainValue value × (is_text (definition_text name append value) ≡ true) × IsOwnLine (definition_text name append value)
IsPlainItem profile (rule special is_double targets prerequisites recipe) =
    ArePlainTargets profile targets × ArePlainPrerequisites prerequisites × HasSpecial profile targets special × (is_refused_with profile prerequisites special ≡ false)
    × (is_text (rule_text is_double targets prerequisites) ≡ true) × IsOwnLine (rule_text is_double targets prerequisites) × IsPlainRecipe recipe
    × HasSign profile is_double

abbrev pub ArePlain : Profile → List PlainItem → Type 0
ArePlain profile [] = Unit {0}
ArePlain profile (one ∷ more) = IsPlainItem profile one × ArePlain profile more

-- the number of the next line
abbrev pub next : ℕ → ℕ
next number = number_after number 1

abbrev pub recipe_on : (number : ℕ) → List (List ℕ) → List RecipeLine
recipe_on number [] = []
recipe_on number (text ∷ more) = record { text = text; line = number } ∷ recipe_on (next number) more

abbrev pub after_recipe : (number : ℕ) → List (List ℕ) → ℕ
after_recipe number [] = number
after_recipe number (text ∷ more) = after_recipe (next number) more

-- the items with their file and the numbers of their lines, from this number on
abbrev pub items_on : (file : List ℕ) (number : ℕ) → List PlainItem → List Item
items_on file number [] = []
items_on file number (definition name append value ∷ more) = item.Definition (definition_on file number name append value) ∷ items_on file (next number) more
items_on file number (rule special is_double targets prerequisites recipe ∷ more) =
    item_of special (record { file = file; line = number; is_double = is_double; targets = targets; prerequisites = prerequisites; recipe = recipe_on (next number) recipe })
    ∷ items_on file (after_recipe (next number) recipe) more
