-- References to macros that nothing may define. Own; GNU make tells them under `--warn-undefined-variables` where it expands them.
use Rattle.std.specs.Prelude.{ℕ, Bool, true, false, ◌&&◌, ◌||◌, ◌==◌, List, [], ◌∷◌, Option, Some, None, option_map, option_and_then, codes, if◌then◌else◌}
use Rattle.std.specs.List.{list_any}
use Rattle.byte_strings.specs.Blanks.{is_blank}
use Rattle.mk_notes.specs.BuiltIn.{unchanged}
use Rattle.mk_notes.specs.Leading.{referred_behind}

-- the byte is the name of an automatic macro (GNU make, "Automatic Variables")
abbrev pub is_automatic_byte : ℕ → Bool
is_automatic_byte b = list_any (λ c. c == b) (codes "@%?<*^+|")

-- nothing stands behind it, or what asks for its folder or file alone
abbrev pub is_part : (rest : List ℕ) → Bool
is_part [] = true
is_part (b ∷ []) = b == 68 || b == 70
is_part (b ∷ c ∷ rest) = false

-- an automatic macro, which recipes define
abbrev pub is_automatic_name : (name : List ℕ) → Bool
is_automatic_name [] = false
is_automatic_name (b ∷ rest) = is_automatic_byte b && is_part rest

-- the name, if it is one that a makefile may define: none is empty or has a blank, as calls of functions have
abbrev pub if_definable : (name : List ℕ) → Option (List ℕ)
if_definable [] = None
if_definable (b ∷ rest) = if is_automatic_name (b ∷ rest) || list_any is_blank (b ∷ rest) then None else Some (b ∷ rest)

-- the macro of the reference that stands behind a dollar, unless its name holds references itself
abbrev pub macro_behind : (behind : List ℕ) → Option (List ℕ)
macro_behind behind = option_and_then (λ parts. if_definable (unchanged parts.0)) (referred_behind behind)
