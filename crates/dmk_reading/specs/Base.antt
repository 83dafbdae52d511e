-- What -p prints: the macros that are defined before the makefile, and what was read of it, each behind a line that says where it
-- stands. POSIX make, -p, leaves the form open; this is GNU make's for its parts, and own for the place of a line.
use Rattle.std.specs.Prelude.{ℕ, Bool, true, false, List, [], ◌∷◌, ◌++◌, codes, decimal}
use Rattle.std.specs.List.{flat_map}
use Rattle.bd_lists.specs.declared.recipe.Variable.{Variable}
use Rattle.mk_profile.specs.declared.profile.Profile.{Profile}
use Rattle.mk_reader.specs.declared.item.Definition.{Definition}
use Rattle.mk_reader.specs.declared.item.RecipeLine.{RecipeLine}
use Rattle.mk_reader.specs.declared.item.Rule.{Rule}
use Rattle.mk_reader.specs.declared.item.Item.{Item}
use Rattle.mk_reader.specs.declared.item.Item.TheVariants as item
use Rattle.dmk_reading.specs.Definitions.{tool_macros, environment_macros}

-- a comment with where the next lines come from
abbrev pub origin_line : (origin : List ℕ) → List ℕ
origin_line origin = codes "# " ++ origin ++ 10 ∷ []

-- so it is of a line of a makefile: the file's name and the number, as faults name them
abbrev pub place_line : (file : List ℕ) (line : ℕ) → List ℕ
place_line file line = codes "# " ++ file ++ (codes ":" ++ decimal line) ++ 10 ∷ []

abbrev pub equals : (append : Bool) → List ℕ
equals true = codes " += "
equals false = codes " = "

-- a definition, whose value isn't expanded
abbrev pub macro_line : (name sign value : List ℕ) → List ℕ
macro_line name sign value = name ++ sign ++ value ++ 10 ∷ []

abbrev pub definition_text : Definition → List ℕ
definition_text d = place_line d.file d.line ++ macro_line d.name (equals d.append) d.value

abbrev pub colons : (is_double : Bool) → List ℕ
colons true = codes "::"
colons false = codes ":"

-- what stands behind the sign of a rule
abbrev pub spaced : List ℕ → List ℕ
spaced [] = []
spaced (c ∷ text) = 32 ∷ c ∷ text

-- the line of targets and prerequisites as they stand in the makefile
abbrev pub target_line : (is_double : Bool) → (targets prerequisites : List ℕ) → List ℕ
target_line is_double targets prerequisites = targets ++ colons is_double ++ spaced prerequisites ++ 10 ∷ []

-- a line of a recipe, behind its TAB
abbrev pub recipe_line : RecipeLine → List ℕ
recipe_line line = 9 ∷ line.text ++ 10 ∷ []

abbrev pub rule_text : Rule → List ℕ
rule_text rule = place_line rule.file rule.line ++ target_line rule.is_double rule.targets rule.prerequisites ++ flat_map recipe_line rule.recipe

-- what a makefile holds, in its order, that of special names too
abbrev pub item_text : Item → List ℕ
item_text (item.Definition definition) = definition_text definition
item_text (item.Rule rule) = rule_text rule
item_text (item.Special special) = rule_text special.rule

-- what is defined elsewhere
abbrev pub variable_text : (origin : List ℕ) → Variable → List ℕ
variable_text origin variable = origin_line origin ++ macro_line variable.name (codes " = ") variable.value

-- all that is printed in this language: what is built in, the environment and the command line in their orders, and then the items
abbrev pub base_text : Profile → (definitions environment : List Variable) (items : List Item) → List ℕ
base_text profile definitions environment items =
    flat_map (variable_text (codes "default")) (tool_macros profile environment)
    ++ flat_map (variable_text (codes "environment")) (environment_macros profile environment)
    ++ flat_map (variable_text (codes "command line")) definitions
    ++ flat_map item_text items
