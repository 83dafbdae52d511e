-- The text of several lines as one (GNU make manual, "Splitting Long Lines"; GNU make 4.3): a newline with the blanks around it is one space, and of the
-- backslashes before it, half are left.
use Rattle.std.specs.Prelude.{ℕ, ◌-◌, ◌/◌, ◌==◌, ◌&&◌, if◌then◌else◌, Bool, true, false, List, [], ◌∷◌, ◌++◌, take, length}
use Rattle.std.specs.List.{suffix_len}
use Rattle.byte_strings.specs.Blanks.{is_blank, trimmed_end}

abbrev pub is_backslash : ℕ → Bool
is_backslash b = b == 92

-- a line at its end
unfoldable pub without_backslash : List ℕ → List ℕ
without_backslash line = take (length line - (suffix_len is_backslash line - suffix_len is_backslash line / 2)) line

abbrev pub ended : List ℕ → List ℕ
ended line = trimmed_end (without_backslash line) ++ 32 ∷ []

-- the bytes behind what was made of those before them; blanks are passed over where a line begins that isn't the first
abbrev pub one_line_behind : (begins : Bool) → (made : List ℕ) → List ℕ → List ℕ
one_line_behind begins made [] = made
one_line_behind begins made (b ∷ bs) =
    if b == 10 then one_line_behind true (ended made) bs
    else (if begins && is_blank b then one_line_behind true made bs else one_line_behind false (made ++ b ∷ []) bs)

abbrev pub one_line : List ℕ → List ℕ
one_line text = one_line_behind false [] text
