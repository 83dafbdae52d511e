-- Blanks, and the words that stand between them: the definition of both for all crates.
use Rattle.std.specs.Prelude.{◌≡◌, ℕ, ◌-◌, Bool, true, false, ◌||◌, ◌==◌, List, [], ◌∷◌, take, drop, length, filter}
use Rattle.std.specs.List.{prefix_len, suffix_len, before_first, slice_split}

-- a blank is a space or a TAB (make(1S): words are separated by blanks)
abbrev pub is_blank : ℕ → Bool
is_blank b = b == 32 || b == 9

-- a list of at least one byte (own)
abbrev pub is_nonempty : List ℕ → Bool
is_nonempty [] = false
is_nonempty (b ∷ bs) = true

-- the words of a text: what stands between its blanks (make(1S), "Macros")
unfoldable pub words : List ℕ → List (List ℕ)
words text = filter is_nonempty (slice_split is_blank text)

-- what stands before the first blank (own)
unfoldable pub first_word : List ℕ → List ℕ
first_word text = before_first is_blank text

-- without the blanks in front (own)
unfoldable pub trimmed_start : List ℕ → List ℕ
trimmed_start text = drop (prefix_len is_blank text) text

-- without the blanks at the end (own)
unfoldable pub trimmed_end : List ℕ → List ℕ
trimmed_end text = take (length text - suffix_len is_blank text) text

-- without the blanks at both ends (own)
unfoldable pub trimmed : List ℕ → List ℕ
trimmed text = trimmed_end (trimmed_start text)

-- no byte is a blank (own)
abbrev pub HasNoBlank : List ℕ → Type 0
HasNoBlank [] = Unit {0}
HasNoBlank (b ∷ bs) = (is_blank b ≡ false) × HasNoBlank bs

-- each is a word: at least one byte, and none a blank (own)
abbrev pub AreWords : List (List ℕ) → Type 0
AreWords [] = Unit {0}
AreWords (w ∷ ws) = (is_nonempty w ≡ true) × HasNoBlank w × AreWords ws
