-- Numbers that are written in digits.
use Rattle.std.specs.Prelude.{ℕ, List, [], ◌∷◌, Option, Some, None, min, if◌then◌else◌}
use Rattle.std.specs.List.{list_all}
use Rattle.std.specs.Char.{is_ascii_digit}
use Rattle.std.specs.Str.Parse.{digits_value}

-- the number that a text is, if it is digits alone; a larger one than 65,535 is that (own)
abbrev pub number_of : (text : List ℕ) → Option ℕ
number_of [] = None
number_of (b ∷ rest) = if list_all is_ascii_digit (b ∷ rest) then Some (min (digits_value 10 (b ∷ rest)) 65535) else None
