-- Words as the private functions gather them, byte by byte. `Words` says what they come to.
use Rattle.std.specs.Prelude.{◌≡◌, ℕ, ◌+◌, Bool, false, List, [], ◌∷◌, ◌++◌, length, Option, Some, None, Result, Ok, Err, if◌then◌else◌}
use Rattle.mk_depfiles.specs.Lines.{lines}
use Rattle.mk_depfiles.specs.Words.{in_front, words_behind, ended, backslashes}
use Rattle.mk_depfiles.specs.declared.refusal.Cause.{Cause}
use Rattle.mk_depfiles.specs.declared.gathering.Held.{Held}
use Rattle.mk_depfiles.specs.declared.gathering.Held.TheVariants.{Backslashes, Dollar}
use Rattle.mk_depfiles.specs.declared.gathering.Gathering.{Gathering}

-- the words that are gathered, with those of what is left of the line
abbrev pub read : Gathering → (text : List ℕ) → Result (List (List ℕ)) Cause
read g text = in_front g.words (words_behind g.word.items g.held text)

-- the word was ended behind so many backslashes, whatever follows
abbrev pub Ends : (before after : Gathering) → (count : ℕ) → Type 0
Ends before after count =
    (text : List ℕ) → read after text ≡ in_front before.words (in_front (ended (before.word.items ++ backslashes count)) (words_behind [] (Backslashes 0) text))

abbrev pub held_count : Held → ℕ
held_count (Backslashes n) = n
held_count Dollar = 0

-- this byte was taken in, whatever follows, or refused
abbrev pub Takes : (before after : Gathering) → ℕ → Option Cause → Type 0
Takes before after byte None = (text : List ℕ) → read after text ≡ read before (byte ∷ text)
Takes before after byte (Some cause) = (text : List ℕ) → read before (byte ∷ text) ≡ Err cause

-- what was found is added behind other names, or isn't there
abbrev pub Adds : Result (List (List ℕ)) Cause → (before after : List (List ℕ)) → Option Cause → Type 0
Adds found before after None = (names : List (List ℕ)) × (found ≡ Ok names) × (after ≡ before ++ names)
Adds found before after (Some cause) = found ≡ Err cause

-- the lines of what is left of a text, if anything is
abbrev pub lines_left : Option (List ℕ) → List (List ℕ)
lines_left None = []
lines_left (Some text) = lines false text

abbrev pub size_left : Option (List ℕ) → ℕ
size_left None = 0
size_left (Some text) = length text + 1

-- a name behind others, where it is new
abbrev pub mentioned : (is_new : Bool) → (names : List (List ℕ)) (name : List ℕ) → List (List ℕ)
mentioned is_new names name = if is_new then names ++ name ∷ [] else names
