-- What reaches a recipe's environment (GNU make manual, "Communicating Variables to a Sub-make"; GNU make 4.3).
use Rattle.std.specs.Prelude.{◌≡◌, ℕ, Bool, true, false, not, ◌&&◌, ◌||◌, ◌==◌, nat_le, List, [], ◌∷◌, Option, Some, None, Result, Ok, Err}
use Rattle.std.specs.List.{list_all}
use Rattle.mk_functions.specs.declared.variable.Flavor.{Flavor}
use Rattle.mk_functions.specs.declared.variable.Flavor.TheVariants.{Recursive, Simple}
use Rattle.mk_functions.specs.declared.variable.Origin.{Origin}
use Rattle.mk_functions.specs.declared.variable.Origin.TheVariants.{Default, Environment, EnvironmentOverride, File, CommandLine, Override, Automatic}
use Rattle.mk_functions.specs.Variables.{Variables}
use Rattle.mk_functions.specs.Outcome.{gives, fails, Fault}
use Rattle.mk_functions.specs.Values.{Answers}
use Rattle.mk_variables.specs.declared.entry.Sharing.{Sharing}
use Rattle.mk_variables.specs.declared.entry.Sharing.TheVariants.{Unsaid, Exported, Unexported}
use Rattle.mk_variables.specs.declared.value.Taken.{Taken}
use Rattle.mk_variables.specs.declared.value.Taken.TheVariants.{AsWritten, Expanded}
use Rattle.mk_variables.specs.Table.{Entry}
use Rattle.mk_variables.specs.Definition.{IsValue}

abbrev pub is_digit : ℕ → Bool
is_digit b = nat_le 48 b && nat_le b 57

-- a letter, a digit or `_`
abbrev pub is_name_byte : ℕ → Bool
is_name_byte b = (nat_le 65 b && nat_le b 90) || ((nat_le 97 b && nat_le b 122) || (is_digit b || b == 95))

-- a name that a shell can refer to
abbrev pub is_shell_name : List ℕ → Bool
is_shell_name [] = false
is_shell_name (b ∷ bs) = not (is_digit b) && list_all is_name_byte (b ∷ bs)

-- where nothing was said of a variable's export: what came with the environment or the command line goes on, and the makefile's own where all are
-- exported; never what is built in
abbrev pub passed_from : (exports_all : Bool) → Origin → Bool
passed_from all Default = false
passed_from all Environment = true
passed_from all EnvironmentOverride = true
passed_from all File = all
passed_from all CommandLine = true
passed_from all Override = all
passed_from all Automatic = false

abbrev pub passed_by : Sharing → (exports_all : Bool) → Origin → (name : List ℕ) → Bool
passed_by Exported all origin name = true
passed_by Unexported all origin name = false
passed_by Unsaid all origin name = passed_from all origin && is_shell_name name

-- a variable reaches recipes
abbrev pub is_passed : (exports_all : Bool) → (name : List ℕ) → Entry → Bool
is_passed all name e = passed_by e.sharing all e.variable.origin name

-- what is taken of its text: what came with the environment goes on as it is
abbrev pub taken_from : Origin → Taken
taken_from Environment = AsWritten
taken_from EnvironmentOverride = AsWritten
taken_from origin = Expanded

abbrev pub taken_for : Flavor → Origin → Taken
taken_for Simple origin = AsWritten
taken_for Recursive origin = taken_from origin

-- the names and values that reach a recipe, or why there are none
abbrev pub Told : Type 0
Told = Result (List (List ℕ × List ℕ)) Fault

abbrev pub with_front : (name value : List ℕ) → Told → Told
with_front name value (Ok more) = Ok ((name, value) ∷ more)
with_front name value (Err fault) = Err fault

module _ (w : Answers) (variables : Variables) (exports_all : Bool) where
  -- a variable doesn't reach recipes, or reaches them with this value
  abbrev pub IsPassedAs : (name : List ℕ) → Entry → (value : Option (List ℕ)) → Type 0
  IsPassedAs name e None = is_passed exports_all name e ≡ false
  IsPassedAs name e (Some value) =
      (is_passed exports_all name e ≡ true) × IsValue w variables (taken_for e.variable.flavor e.variable.origin) e.variable.text (gives value)

  -- it would, and has no value
  abbrev pub HasNoValue : (name : List ℕ) → Entry → Fault → Type 0
  HasNoValue name e fault =
      (is_passed exports_all name e ≡ true) × IsValue w variables (taken_for e.variable.flavor e.variable.origin) e.variable.text (fails fault)

  -- what of these variables reaches recipes
  pub data Passes : List (List ℕ × Entry) → Told → Type 0 where
    ends : Passes [] (Ok [])
    hides : {es : List (List ℕ × Entry)} {told : Told} (name : List ℕ) (e : Entry) → IsPassedAs name e None → Passes es told →
        Passes ((name, e) ∷ es) told
    passes : {es : List (List ℕ × Entry)} {told : Told} (name : List ℕ) (e : Entry) (value : List ℕ) → IsPassedAs name e (Some value) → Passes es told →
        Passes ((name, e) ∷ es) (with_front name value told)
    meets_fault : {es : List (List ℕ × Entry)} (name : List ℕ) (e : Entry) (fault : Fault) → HasNoValue name e fault →
        Passes ((name, e) ∷ es) (Err fault)
