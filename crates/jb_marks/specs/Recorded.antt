-- What the entry of a target has of its hidden prerequisites. Own.
use Rattle.std.specs.Prelude.{ℕ, List, [], ◌∷◌, length, Option, Some, None}
use Rattle.st_records.specs.declared.record.Entry.{Entry}
use Rattle.st_records.specs.declared.record.Explicit.{Explicit}
use Rattle.st_records.specs.declared.record.Explicit.TheVariants as explicits
use Rattle.st_marks.specs.Parts.{Parted, parts_of}
use Rattle.st_marks.specs.declared.mark.Mark.{Mark}
use Rattle.jb_marks.specs.declared.names.Recorded.{Recorded}

abbrev pub hidden_in : Option Parted → List Mark
hidden_in None = []
hidden_in (Some parts) = parts.hidden

-- their marks, of so many names; none where the entry has no marks, or not those of so many names
abbrev pub hidden_marks : Explicit → (names : ℕ) → List Mark
hidden_marks explicits.Unknown names = []
hidden_marks (explicits.Known explicit) names = []
hidden_marks (explicits.Marked explicit text) names = hidden_in (parts_of text (length explicit) names)

-- each name with the mark in its place, if there is one
abbrev pub named_with : (names : List (List ℕ)) → List Mark → List Recorded
named_with [] marks = []
named_with (name ∷ names) [] = record { name = name; mark = None } ∷ named_with names []
named_with (name ∷ names) (m ∷ marks) = record { name = name; mark = Some m } ∷ named_with names marks

-- the hidden prerequisites that an entry names
abbrev pub recorded_in : Entry → List Recorded
recorded_in entry = named_with entry.hidden (hidden_marks entry.explicit (length entry.hidden))
