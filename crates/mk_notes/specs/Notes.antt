-- The notes of a run. Own; that a name with a blank is a function is GNU make's, "Functions for Transforming Text".
use Rattle.std.specs.Prelude.{ℕ, Bool, true, false, ◌==◌, List, [], ◌∷◌, ◌++◌, bytes_eq, if◌then◌else◌}
use Rattle.std.specs.List.{list_any}
use Rattle.mk_notes.specs.declared.note.Note.{Note}
use Rattle.mk_notes.specs.declared.note.Subject.{Subject}
use Rattle.mk_notes.specs.declared.note.Subject.TheVariants.{Function, Automatic, SuffixRule, PlainTarget, Target}

-- one note serves for both: all functions are one subject
abbrev pub is_same : Subject → Subject → Bool
is_same (Function one) (Function other) = true
is_same (Automatic one) (Automatic other) = one == other
is_same (SuffixRule one) (SuffixRule other) = bytes_eq one other
is_same (PlainTarget one) (PlainTarget other) = bytes_eq one other
is_same (Target one) (Target other) = bytes_eq one other
is_same _ _ = false

-- the notes with one on this subject, unless there is one
abbrev pub noted : (file : List ℕ) (line : ℕ) → Subject → List Note → List Note
noted file line subject notes =
    if list_any (λ note. is_same note.subject subject) notes then notes else notes ++ record { file = file; line = line; subject = subject } ∷ []

-- so with all of these
abbrev pub all_noted : (file : List ℕ) (line : ℕ) → List Subject → List Note → List Note
all_noted file line [] notes = notes
all_noted file line (subject ∷ more) notes = all_noted file line more (noted file line subject notes)
