-- The words of MAKEFLAGS (POSIX make, MAKEFLAGS). What parts them and what quotes is as GNU make reads it: blanks part words, and a
-- backslash takes the byte behind it along; the whole text is expanded first, so that two dollars are one.
use Rattle.std.specs.Prelude.{◌≡◌, ◌≢◌, ℕ, Bool, ◌||◌, ◌&&◌, List, [], ◌∷◌, Option, Some, None, option_map, nat_eq, if◌then◌else◌}
use Rattle.std.specs.List.{flat_map}
use Rattle.std.specs.Borrow.{Bor}

abbrev pub is_blank : ℕ → Bool
is_blank b = nat_eq b 32 || nat_eq b 9

-- these two bytes spell the second one: the first is a backslash, or both are dollars
abbrev pub is_pair : (first second : ℕ) → Bool
is_pair first second = nat_eq first 92 || (nat_eq first 36 && nat_eq second 36)

-- the byte that is spelled by a first one, with what stands behind it, and what then is left
abbrev pub spelled_with : (first : ℕ) (behind : List ℕ) → ℕ × List ℕ
spelled_with first [] = (first, [])
spelled_with first (second ∷ rest) = if is_pair first second then (second, rest) else (first, second ∷ rest)

-- the byte of a word that a text begins with, and what stands behind it: none at the end of the word
abbrev pub spelled : (text : List ℕ) → Option (ℕ × List ℕ)
spelled [] = None
spelled (first ∷ behind) = if is_blank first then None else Some (spelled_with first behind)

-- a byte and the slice behind it, as they are seen
abbrev pub shown_byte : Option (ℕ × Bor (List ℕ)) → Option (ℕ × List ℕ)
shown_byte found = option_map (λ f. (f.0, f.1.now)) found

-- the text begins with this word, which goes as far as it can, and the rest stands behind it
abbrev pub IsWord : (word text rest : List ℕ) → Type 0
IsWord [] text rest = (spelled text ≡ None) × (rest ≡ text)
IsWord (byte ∷ word) text rest = (behind : List ℕ) × (spelled text ≡ Some (byte, behind)) × IsWord word behind rest

-- what stands behind the blanks that a text begins with
abbrev pub behind_blanks : List ℕ → List ℕ
behind_blanks [] = []
behind_blanks (b ∷ text) = if is_blank b then behind_blanks text else b ∷ text

-- the words of a text: none where it is blanks alone; else the one behind its first blanks, and the words of the rest
abbrev pub Reads : (text : List ℕ) (words : List (List ℕ)) → Type 0
Reads text [] = behind_blanks text ≡ []
Reads text (word ∷ words) = (word ≢ []) × ((rest : List ℕ) × IsWord word (behind_blanks text) rest × Reads rest words)

-- what has a backslash before it: what parts words, what takes a byte along, and the quotes and the `#` that BSD make takes for its own
abbrev pub is_special : ℕ → Bool
is_special b = is_blank b || (nat_eq b 92 || (nat_eq b 39 || (nat_eq b 34 || nat_eq b 35)))

abbrev pub quoted_byte : ℕ → List ℕ
quoted_byte b = if nat_eq b 36 then 36 ∷ 36 ∷ [] else if is_special b then 92 ∷ b ∷ [] else b ∷ []

-- a text as a part of one word
abbrev pub quoted : List ℕ → List ℕ
quoted text = flat_map quoted_byte text

-- words, each behind a blank
abbrev pub written : List (List ℕ) → List ℕ
written words = flat_map (λ word. 32 ∷ quoted word) words
