-- Names that spell functions of GNU make.
use Rattle.std.specs.Prelude.{◌≡◌, ℕ, Bool, true, false, ◌&&◌, nat_lt, List, length, Option, Some, None, bytes_eq, if◌then◌else◌}
use Rattle.std.specs.List.{list_any}
use Rattle.byte_strings.specs.Blanks.{first_word}
use Rattle.mk_macros.specs.declared.fault.MacroFault.{MacroFault}
use Rattle.mk_macros.specs.declared.fault.MacroFault.TheVariants.{OutOfMemory, Function}
use Rattle.mk_macros.specs.declared.function.TheConstants.{FUNCTIONS}

-- the word is the name of a function (GNU make, "Functions for Transforming Text")
abbrev pub is_function : (word : List ℕ) → Bool
is_function word = list_any (λ n. bytes_eq n.now word) FUNCTIONS

-- the function that a name spells: its first word, where a blank is behind that (GNU make, "Function Call Syntax")
abbrev pub function_of : (name : List ℕ) → Option (List ℕ)
function_of name = if nat_lt (length (first_word name)) (length name) && is_function (first_word name) then Some (first_word name) else None

-- so in the wide profile; in the strict one such a name is that of a macro
abbrev pub function_in : (wide : Bool) → (name : List ℕ) → Option (List ℕ)
function_in false name = None
function_in true name = function_of name

-- the fault of a name that spells this function, if any
abbrev pub IsFunctionFault : (function : Option (List ℕ)) → MacroFault → Type 0
IsFunctionFault function OutOfMemory = Unit {0}
IsFunctionFault function (Function word) = function ≡ Some word
IsFunctionFault function _ = ⊥
