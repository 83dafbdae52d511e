-- The references of a text that are empty here, though another make gives them a meaning.
use Rattle.std.specs.Prelude.{ℕ, Bool, false, not, ◌&&◌, ◌||◌, ◌==◌, nat_le, List, [], ◌∷◌, ◌++◌, Option, Some, None, take, drop, if◌then◌else◌}
use Rattle.std.specs.List.{list_any, prefix_len}
use Rattle.byte_strings.specs.Blanks.{is_blank}
use Rattle.mk_profile.specs.Profile.{is_wide}
use Rattle.mk_profile.specs.declared.profile.Profile.{Profile}
use Rattle.mk_notes.specs.declared.note.Subject.{Subject}
use Rattle.mk_notes.specs.declared.note.Subject.TheVariants.{Function, Automatic}

-- the byte may stand in the name of a function: a small letter, or a dash
abbrev pub is_letter : ℕ → Bool
is_letter b = (nat_le 97 b && nat_le b 122) || b == 45

abbrev pub is_dollar : ℕ → Bool
is_dollar b = b == 36

-- what closes a bracket, if the byte is one
abbrev pub closing : ℕ → Option ℕ
closing b = if b == 40 then Some 41 else (if b == 123 then Some 125 else None)

abbrev pub begins_with_blank : List ℕ → Bool
begins_with_blank [] = false
begins_with_blank (b ∷ bytes) = is_blank b

-- the letters that a text begins with, where there are some and a blank is behind them
abbrev pub word_before : (word rest : List ℕ) → Option (List ℕ)
word_before [] rest = None
word_before (b ∷ word) rest = if begins_with_blank rest then Some (b ∷ word) else None

-- the name of the function that is called behind an opening bracket (GNU make, "Function Call Syntax"): `wildcard` of `wildcard *.c)`
abbrev pub word_at : List ℕ → Option (List ℕ)
word_at text = word_before (take (prefix_len is_letter text) text) (drop (prefix_len is_letter text) text)

-- the automatic macro is empty: in the strict profile `$^`, `$+` and `$|` of GNU make are
abbrev pub is_automatic : Profile → ℕ → Bool
is_automatic profile b = not (is_wide profile) && (b == 94 || (b == 43 || b == 124))

abbrev pub called_within : (closing : Option ℕ) (after : List ℕ) → Option (List ℕ)
called_within None after = None
called_within (Some b) after = if list_any (λ c. c == b) after then word_at after else None

-- the name of the function that a byte calls behind a dollar, with what follows it, where that closes its bracket
abbrev pub called : (b : ℕ) (after : List ℕ) → Option (List ℕ)
called b after = called_within (closing b) after

-- the subject of a call, where there is one
abbrev pub function_of : Option (List ℕ) → Option Subject
function_of None = None
function_of (Some word) = Some (Function word)

-- the subject of the reference that a byte begins behind a dollar, with what follows it; in the wide profile calls are refused
abbrev pub subject_at : Profile → (b : ℕ) (after : List ℕ) → Option Subject
subject_at profile b after =
    if is_automatic profile b then Some (Automatic b) else (if is_wide profile then None else function_of (called b after))

abbrev pub listed : Option Subject → List Subject
listed None = []
listed (Some subject) = subject ∷ []

-- the subjects of a text's references, in their order, where a dollar stands before it or none does. Two dollars are one that begins
-- no reference
abbrev pub subjects_in : Profile → (behind : Bool) → List ℕ → List Subject
subjects_in profile behind [] = []
subjects_in profile behind (b ∷ text) =
    (if behind && not (is_dollar b) then listed (subject_at profile b text) else []) ++ subjects_in profile (is_dollar b && not behind) text
