-- Patterns with a `%` (GNU make manual, "Functions for String Substitution and Analysis").
use Rattle.std.specs.Prelude.{ℕ, ◌+◌, ◌-◌, ◌/◌, ◌%◌, ◌==◌, ◌||◌, if◌then◌else◌, Bool, not, List, [], ◌∷◌, ◌++◌, take, drop, length, replicate, Option, Some, None, is_some, bytes_eq}
use Rattle.std.specs.List.{list_any}

-- what stands before the first `%`, and what stands behind it, where there is one
abbrev pub Pattern : Type 0
Pattern = List ℕ × Option (List ℕ)

abbrev pub with_front : List ℕ → Pattern → Pattern
with_front bytes pattern = (bytes ++ pattern.0, pattern.1)

abbrev pub backslashes : ℕ → List ℕ
backslashes n = replicate n 92

-- the pattern of a text that stands behind so many backslashes. Before a `%` two of them stand for one, and one that is left makes the `%` a byte
-- like others; before another byte, and behind the `%`, they stand for themselves
abbrev pub pattern_behind : (held : ℕ) → List ℕ → Pattern
pattern_behind held [] = (backslashes held, None)
pattern_behind held (b ∷ bs) =
    if b == 92 then pattern_behind (held + 1) bs
    else (if not (b == 37) then with_front (backslashes held ++ b ∷ []) (pattern_behind 0 bs)
    else (if held % 2 == 0 then (backslashes (held / 2), Some bs)
    else with_front (backslashes (held / 2) ++ b ∷ []) (pattern_behind 0 bs)))

abbrev pub pattern_of : List ℕ → Pattern
pattern_of text = pattern_behind 0 text

-- the text without what it has to end with
abbrev pub before_end : (end text : List ℕ) → Option (List ℕ)
before_end end text =
    if bytes_eq (drop (length text - length end) text) end then Some (take (length text - length end) text) else None

-- what the `%` stands for in a word, which begins and ends as the pattern does
abbrev pub stem_of : (front behind word : List ℕ) → Option (List ℕ)
stem_of front behind word =
    if bytes_eq (take (length front) word) front then before_end behind (drop (length front) word) else None

-- the word has the form of a pattern
abbrev pub fits_at : (front : List ℕ) → Option (List ℕ) → (word : List ℕ) → Bool
fits_at front None word = bytes_eq word front
fits_at front (Some behind) word = is_some (stem_of front behind word)

abbrev pub fits : Pattern → (word : List ℕ) → Bool
fits pattern word = fits_at pattern.0 pattern.1 word

abbrev pub fits_any : List Pattern → (word : List ℕ) → Bool
fits_any patterns word = list_any (λ pattern. fits pattern word) patterns

-- the word is one of these, or has the form of a pattern
abbrev pub fits_parted : (literals : List (List ℕ)) (forms : List Pattern) (word : List ℕ) → Bool
fits_parted literals forms word = list_any (bytes_eq word) literals || fits_any forms word
