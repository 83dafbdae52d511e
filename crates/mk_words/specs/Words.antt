-- Words of texts, and texts of words (GNU make manual, "Functions for String Substitution and Analysis").
use Rattle.std.specs.Prelude.{ℕ, zero, suc, ◌-◌, ◌||◌, ◌&&◌, ◌==◌, nat_le, Bool, List, take, drop, length, filter}
use Rattle.std.specs.List.{prefix_len, suffix_len, position_or_len, slice_split, join_with_byte}
use Rattle.byte_strings.specs.Blanks.{is_nonempty}

-- what parts words: a space, or a byte from TAB to carriage return, with newline among them
abbrev pub is_space : ℕ → Bool
is_space b = b == 32 || (nat_le 9 b && nat_le b 13)

-- what stands between spaces
unfoldable pub words_of : List ℕ → List (List ℕ)
words_of text = filter is_nonempty (slice_split is_space text)

-- without the spaces in front
unfoldable pub behind_spaces : List ℕ → List ℕ
behind_spaces text = drop (prefix_len is_space text) text

-- without the spaces in front and the first word
unfoldable pub behind_word : List ℕ → List ℕ
behind_word text = drop (position_or_len is_space (behind_spaces text)) (behind_spaces text)

-- what stands behind so many words
abbrev pub behind_words : ℕ → List ℕ → List ℕ
behind_words zero text = text
behind_words (suc n) text = behind_words n (behind_word text)

-- without the spaces at the end
unfoldable pub before_spaces : List ℕ → List ℕ
before_spaces text = take (length text - suffix_len is_space text) text

-- words with one space between each two
abbrev pub spaced : List (List ℕ) → List ℕ
spaced ws = join_with_byte 32 ws
