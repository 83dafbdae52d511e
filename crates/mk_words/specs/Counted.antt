-- Words that are counted from 1 on (GNU make manual, "Functions for String Substitution and Analysis").
use Rattle.std.specs.Prelude.{ℕ, zero, suc, ◌-◌, List, [], ◌∷◌, take, length, Option, Some, None, get_or}
use Rattle.mk_words.specs.Words.{behind_words, behind_spaces, before_spaces}

-- the word of this number, or nothing where there are fewer; there is no number 0
abbrev pub numbered_word : ℕ → List (List ℕ) → Option (List ℕ)
numbered_word zero ws = None
numbered_word (suc n) ws = Some (get_or ws n [])

abbrev pub first_word : List (List ℕ) → List ℕ
first_word [] = []
first_word (w ∷ ws) = w

-- the last of the words, or this where there is none
abbrev pub last_or : List ℕ → List (List ℕ) → List ℕ
last_or word [] = word
last_or word (w ∷ ws) = last_or w ws

abbrev pub last_word : List (List ℕ) → List ℕ
last_word ws = last_or [] ws

-- the words from one number to another, with what stands between them
abbrev pub stretch : (before last : ℕ) (text : List ℕ) → List ℕ
stretch before last text =
    before_spaces (behind_spaces (take (length (behind_words before text) - length (behind_words last text)) (behind_words before text)))

-- there is no number 0 to begin with
abbrev pub word_stretch : (first last : ℕ) (text : List ℕ) → Option (List ℕ)
word_stretch zero last text = None
word_stretch (suc before) last text = Some (stretch before last text)
