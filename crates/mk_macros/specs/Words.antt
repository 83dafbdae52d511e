-- How a reference changes each word of a value.
use Rattle.std.specs.Prelude.{ℕ, zero, suc, ◌+◌, ◌-◌, Bool, true, false, ◌==◌, if◌then◌else◌, List, [], ◌∷◌, ◌++◌, length, map, take, drop, position, Option, Some, None, option_and_then, bytes_eq}
use Rattle.std.specs.List.{join_with_byte}
use Rattle.std.specs.Option.{option_map_or}
use Rattle.byte_strings.specs.Blanks.{words}

-- the byte b is c
abbrev pub is_byte : (c b : ℕ) → Bool
is_byte c b = b == c

-- the first place of a byte
abbrev pub place_of : (c : ℕ) → List ℕ → Option ℕ
place_of c bs = position (is_byte c) bs

-- old and new of a substitution, parted where the stem stands: a word of the form before, stem, after becomes
-- front, stem, back, or front and back alone where new has no place for the stem
pub record Pattern : Type 0 where
  pub before : List ℕ
  pub after : List ℕ
  pub front : List ℕ
  pub keeps_stem : Bool
  pub back : List ℕ

-- new, parted at its first `%`
abbrev pub with_new : (before after new : List ℕ) → Option ℕ → Pattern
with_new before after new None = record { before = before; after = after; front = new; keeps_stem = false; back = [] }
with_new before after new (Some i) = record { before = before; after = after; front = take i new; keeps_stem = true; back = drop (i + 1) new }

-- old, parted at its first `%`. One without it is an ending, and the rest of the word is the stem
-- (make(1S), suffix and pattern replacement in macro references)
abbrev pub with_old : (old new : List ℕ) → Option ℕ → Pattern
with_old old new None = record { before = []; after = old; front = []; keeps_stem = true; back = new }
with_old old new (Some i) = with_new (take i old) (drop (i + 1) old) new (place_of 37 new)

-- what `old=new` does to a word
abbrev pub pattern_of : (old new : List ℕ) → Pattern
pattern_of old new = with_old old new (place_of 37 old)

-- the word without before at its front, where it begins so
abbrev pub without_front : (before word : List ℕ) → Option (List ℕ)
without_front before word = if bytes_eq (take (length before) word) before then Some (drop (length before) word) else None

-- the word without after at its end, where it ends so
abbrev pub without_end : (after word : List ℕ) → Option (List ℕ)
without_end after word =
    if bytes_eq (drop (length word - length after) word) after then Some (take (length word - length after) word) else None

-- the stem of a word of the form before, stem, after
abbrev pub stem_of : Pattern → List ℕ → Option (List ℕ)
stem_of p word = option_and_then (without_end p.after) (without_front p.before word)

-- what stands in the place of a word with this stem
abbrev pub replacement : Pattern → (stem : List ℕ) → List ℕ
replacement p stem = p.front ++ ((if p.keeps_stem then stem else []) ++ p.back)

-- where the last slash of a word stands
abbrev pub last_slash : List ℕ → Option ℕ
last_slash [] = None
last_slash (b ∷ bs) = option_map_or (λ i. Some (i + 1)) (last_slash bs) (if is_byte 47 b then Some 0 else None)

-- what stands before the last slash, which is at this place
abbrev pub before_slash : List ℕ → Option ℕ → List ℕ
before_slash word None = 46 ∷ []
before_slash word (Some zero) = 47 ∷ []
before_slash word (Some (suc i)) = take (suc i) word

-- what stands behind the last slash, which is at this place
abbrev pub behind_slash : List ℕ → Option ℕ → List ℕ
behind_slash word None = word
behind_slash word (Some i) = drop (i + 1) word

-- the part of a word before its last slash: `.` without a slash, and `/` before a slash that stands first
-- (POSIX make, "Internal Macros", the D form)
abbrev pub directory_of : List ℕ → List ℕ
directory_of word = before_slash word (last_slash word)

-- the part of a word after its last slash, or the word without one (POSIX make, "Internal Macros", the F form)
abbrev pub file_of : List ℕ → List ℕ
file_of word = behind_slash word (last_slash word)

-- how each word of a value changes
pub data WordChange : Type 0 where
  by_pattern : (p : Pattern) → WordChange
  to_directory : WordChange
  to_file : WordChange

-- a word that is not of the pattern's form stays as it is
abbrev pub changed_word : WordChange → List ℕ → List ℕ
changed_word (by_pattern p) word = option_map_or (replacement p) (stem_of p word) word
changed_word to_directory word = directory_of word
changed_word to_file word = file_of word

-- each word changed, joined by one space (the space is our own)
abbrev pub changed_words : WordChange → List ℕ → List ℕ
changed_words change value = join_with_byte 32 (map (changed_word change) (words value))
