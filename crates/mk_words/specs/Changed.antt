-- Words that change by a pattern (GNU make manual, "Functions for String Substitution and Analysis").
use Rattle.std.specs.Prelude.{ℕ, zero, suc, ◌-◌, ◌&&◌, not, if◌then◌else◌, Bool, true, false, List, [], ◌∷◌, ◌++◌, take, drop, length, map, filter, Option, Some, None, is_some, slice_get, bytes_eq}
use Rattle.std.specs.Option.{option_map_or}
use Rattle.mk_words.specs.Words.{is_space, words_of, spaced}
use Rattle.mk_words.specs.Patterns.{Pattern, pattern_of, stem_of}

-- a replacement with this in the place of its `%`
abbrev pub filled_at : (front : List ℕ) → Option (List ℕ) → (stem : List ℕ) → List ℕ
filled_at front None stem = front
filled_at front (Some behind) stem = front ++ (stem ++ behind)

abbrev pub filled : Pattern → (stem : List ℕ) → List ℕ
filled to stem = filled_at to.0 to.1 stem

abbrev pub filled_or : (to : Pattern) (word : List ℕ) → Option (List ℕ) → List ℕ
filled_or to word None = word
filled_or to word (Some stem) = filled to stem

-- a word that fits becomes the replacement with what its `%` stands for; another word stays
abbrev pub changed : (front behind : List ℕ) (to : Pattern) (word : List ℕ) → List ℕ
changed front behind to word = filled_or to word (stem_of front behind word)

-- the text is at its end, or a space comes next
abbrev pub ends_word : List ℕ → Bool
ends_word [] = true
ends_word (b ∷ bs) = is_space b

-- a word comes next, whole
abbrev pub is_next : (word text : List ℕ) → Bool
is_next word text = bytes_eq (take (length word) text) word && ends_word (drop (length word) text)

-- each word that is this one with another text in its place, and spaces as they are; so many bytes of it are yet to be passed over
abbrev pub exchanged : (from to : List ℕ) (left : ℕ) (begins : Bool) → List ℕ → List ℕ
exchanged from to left begins [] = []
exchanged from to (suc left) begins (b ∷ bs) = exchanged from to left false bs
exchanged from to zero begins (b ∷ bs) =
    if begins && is_next from (b ∷ bs) then to ++ exchanged from to (length from - 1) false bs else b ∷ exchanged from to 0 (is_space b) bs

-- no word stands at the end of the text
abbrev pub ends_open : List ℕ → Bool
ends_open text = option_map_or is_space (slice_get text (length text - 1)) true

-- no bytes are exchanged at the end of a text, where no word stands there (as GNU make 4.3 does it)
abbrev pub exchanged_all : (from to text : List ℕ) → List ℕ
exchanged_all [] to text = if ends_open text then text ++ to else text
exchanged_all (b ∷ bs) to text = exchanged (b ∷ bs) to 0 true text

-- words of the form front, `%`, behind change; where nothing is to stand in their place, they are left out
abbrev pub changed_words : (front behind replacement text : List ℕ) → List ℕ
changed_words front behind [] text = spaced (filter (λ word. not (is_some (stem_of front behind word))) (words_of text))
changed_words front behind (b ∷ bs) text = spaced (map (changed front behind (pattern_of (b ∷ bs))) (words_of text))

-- without a `%` in the pattern one in the replacement is a byte like others
abbrev pub patsubst_at : (front : List ℕ) → Option (List ℕ) → (replacement text : List ℕ) → List ℕ
patsubst_at front None replacement text = exchanged_all front (filled (pattern_of replacement) (37 ∷ [])) text
patsubst_at front (Some behind) replacement text = changed_words front behind replacement text

abbrev pub patsubst_of : (pattern : Pattern) (replacement text : List ℕ) → List ℕ
patsubst_of pattern replacement text = patsubst_at pattern.0 pattern.1 replacement text

-- each word that ends in these bytes has others in their place, as they stand
abbrev pub changed_ends : (end to text : List ℕ) → List ℕ
changed_ends end to text = spaced (map (changed [] end ([], Some to)) (words_of text))

-- `FROM=TO` in a reference is `patsubst FROM,TO` of the value, and without a `%` in FROM `patsubst %FROM,%TO` (GNU make manual,
-- "Substitution References")
abbrev pub substitution_at : (front : List ℕ) → Option (List ℕ) → (to value : List ℕ) → List ℕ
substitution_at front None to value = changed_ends front to value
substitution_at front (Some behind) to value = changed_words front behind to value

abbrev pub substitution_of : (from : Pattern) (to value : List ℕ) → List ℕ
substitution_of from to value = substitution_at from.0 from.1 to value
