-- Strings that lie one behind the other in one text, each behind its length (own: as lists lie in a state file).
use Rattle.std.specs.Prelude.{◌≡◌, ℕ, zero, suc, ◌≤◌, List, [], ◌∷◌, length, take, drop}
use Rattle.std.specs.Int.{w32, from_le_bytes}

-- the length that stands in front: four bytes, the lowest first
abbrev pub size_of : List ℕ → ℕ
size_of bytes = from_le_bytes w32 (take 4 bytes)

-- the first string
abbrev pub first_text : List ℕ → List ℕ
first_text bytes = take (size_of bytes) (drop 4 bytes)

-- what stands behind it
abbrev pub behind_first : List ℕ → List ℕ
behind_first bytes = drop (size_of bytes) (drop 4 bytes)

-- so many strings
abbrev pub texts : (count : ℕ) (bytes : List ℕ) → List (List ℕ)
texts zero bytes = []
texts (suc count) bytes = first_text bytes ∷ texts count (behind_first bytes)

-- there are so many strings, and nothing else
abbrev pub AreTexts : (count : ℕ) (bytes : List ℕ) → Type 0
AreTexts zero bytes = bytes ≡ []
AreTexts (suc count) bytes = (4 ≤ length bytes) × (size_of bytes ≤ length (drop 4 bytes)) × AreTexts count (behind_first bytes)
