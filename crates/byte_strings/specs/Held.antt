-- Held: which bytes a string holds, in the value itself or in a vector.
use Rattle.std.specs.Prelude.{ℕ, ◌≤◌, List, take}
use Rattle.byte_strings.specs.declared.byte_string.Bytes.{Bytes}
use Rattle.byte_strings.specs.declared.byte_string.Bytes.TheVariants.{Short, Long}

-- of the thirty bytes in the value the first ones count
abbrev pub held : Bytes → List ℕ
held (Short len bytes) = take len bytes
held (Long bytes) = bytes.items

-- no more of them count than there are
abbrev pub IsHeld : Bytes → Type 0
IsHeld (Short len bytes) = len ≤ 30
IsHeld (Long bytes) = Unit {0}
