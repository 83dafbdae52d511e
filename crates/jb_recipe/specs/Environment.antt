-- The environment of a recipe's lines, beside the one that dmk itself was given. The order is this project's own.
use Rattle.std.specs.Prelude.{◌≡◌, ℕ, Bool, true, false, if◌then◌else◌, not, ◌||◌, List, [], ◌∷◌, ◌++◌, filter, codes, decimal, Option, Some, None}
use Rattle.std.specs.Str.{bytes_eq}
use Rattle.bd_lists.specs.declared.recipe.Variable.{Variable}
use Rattle.jb_recipe.specs.declared.variables.Makeflags.{Makeflags}
use Rattle.jb_recipe.specs.declared.variables.Makeflags.TheVariants.{HandedOn, Set, Removed}

abbrev pub variable : (name value : List ℕ) → Variable
variable name value = record { name = name; value = value }

-- a definition reaches recipes under its name: the empty name can't be a variable's, and MAKEFLAGS is the job slots' affair
abbrev pub is_passed_on : Variable → Bool
is_passed_on v = not (bytes_eq v.name [] || bytes_eq v.name (codes "MAKEFLAGS"))

-- what is set of MAKEFLAGS: nothing where it is handed on as it came; an empty value says that it is taken out
abbrev pub set_flags : Makeflags → List Variable
set_flags HandedOn = []
set_flags (Set value) = variable (codes "MAKEFLAGS") value ∷ []
set_flags Removed = variable (codes "MAKEFLAGS") [] ∷ []

-- where the report of a node goes, if state is kept: beside the state file
abbrev pub report_path : (keeps_state : Bool) → (state_name : List ℕ) → (node : ℕ) → Option (List ℕ)
report_path false state_name node = None
report_path true state_name node = Some (state_name ++ (codes ".dep." ++ decimal node))

-- the report's path, a space and the target, where state is kept
abbrev pub report_to : (path : Option (List ℕ)) → (target : List ℕ) → List Variable
report_to None target = []
report_to (Some path) target = variable (codes "SUNPRO_DEPENDENCIES") (path ++ 32 ∷ target) ∷ []

-- the definitions of the command line, then MAKEFLAGS, then where the report goes
abbrev pub environment : (definitions : List Variable) → Makeflags → (path : Option (List ℕ)) → (target : List ℕ) → List Variable
environment definitions flags path target = filter is_passed_on definitions ++ (set_flags flags ++ report_to path target)

-- the value under a name, that of the later of two; what was found before where none has it
unfoldable pub last_value : (name found : List ℕ) → List Variable → List ℕ
last_value name found [] = found
last_value name found (v ∷ behind) = last_value name (if bytes_eq v.name name then v.value else found) behind

-- a recipe for the target finds there that its report goes to this path
abbrev pub NamesReport : (target : List ℕ) → List Variable → (path : List ℕ) → Type 0
NamesReport target variables path = last_value (codes "SUNPRO_DEPENDENCIES") [] variables ≡ path ++ 32 ∷ target
