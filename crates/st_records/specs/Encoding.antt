-- Records as bytes, in a layout of this project's own. A kind, a phase, and which of explicit names and marks are known are one
-- byte each; each other number is four bytes, the lowest first.
use Rattle.std.specs.Prelude.{◌≡◌, ℕ, ◌^◌, ◌<◌, ◌≤◌, List, [], ◌∷◌, ◌++◌, length}
use Rattle.std.specs.List.{flat_map, AllByRecursion}
use Rattle.std.specs.Int.{w32, to_le_bytes}
use Rattle.st_records.specs.declared.version.Version.{Version}
use Rattle.st_records.specs.declared.version.Form.{Form}
use Rattle.st_records.specs.declared.version.Form.TheVariants as forms
use Rattle.st_records.specs.declared.record.Phase.{Phase}
use Rattle.st_records.specs.declared.record.Phase.TheVariants as phases
use Rattle.st_records.specs.declared.record.Explicit.{Explicit}
use Rattle.st_records.specs.declared.record.Explicit.TheVariants.{Unknown, Known, Marked}
use Rattle.st_records.specs.declared.record.Entry.{Entry}
use Rattle.st_records.specs.declared.record.Record.{Record}
use Rattle.st_records.specs.declared.record.Record.TheVariants as records
use Rattle.st_records.specs.Forms.{form_of}
use Rattle.st_records.specs.Parts.{names_known, marks_known, IsNamed, IsMarked, IsUnmarked}

-- a number in four bytes, the lowest first
abbrev pub number : ℕ → List ℕ
number n = to_le_bytes w32 n

-- a name, a command, or the text of marks: its length, then its bytes
abbrev pub string : List ℕ → List ℕ
string bytes = number (length bytes) ++ bytes

-- commands or names: how many, then each of them
abbrev pub strings : List (List ℕ) → List ℕ
strings items = number (length items) ++ flat_map string items

-- explicit names, and behind them the text of the marks
abbrev pub marked_fields : (names : List (List ℕ)) (marks : List ℕ) → List ℕ
marked_fields names marks = strings names ++ string marks

-- a phase: its byte, then the status of what failed, 0 where nothing did
abbrev pub phase_fields : Phase → List ℕ
phase_fields phases.Begun = 1 ∷ number 0
phase_fields phases.Done = 2 ∷ number 0
phase_fields (phases.Failed status) = 3 ∷ number status

-- what a done record says of explicit names: they alone, or 2, they and their marks; the form of version 1 has no place for them
abbrev pub done_explicit_in : Form → Explicit → List ℕ
done_explicit_in forms.Old explicit = []
done_explicit_in forms.Plain explicit = strings (names_known explicit)
done_explicit_in forms.Marked explicit = 2 ∷ marked_fields (names_known explicit) (marks_known explicit)

-- the same of a kept record: 0 where they are unknown, 1 and the names, or 2, the names and their marks, for which the plain
-- form has no place
abbrev pub kept_explicit_in : Form → Explicit → List ℕ
kept_explicit_in forms.Old explicit = []
kept_explicit_in forms.Plain Unknown = 0 ∷ []
kept_explicit_in forms.Plain (Known names) = 1 ∷ strings names
kept_explicit_in forms.Plain (Marked names marks) = 1 ∷ strings names
kept_explicit_in forms.Marked Unknown = 0 ∷ []
kept_explicit_in forms.Marked (Known names) = 1 ∷ strings names
kept_explicit_in forms.Marked (Marked names marks) = 2 ∷ marked_fields names marks

-- an entry: its phase, its commands, its hidden names and what is said of the explicit ones
abbrev pub entry_fields_in : Form → Entry → List ℕ
entry_fields_in form e = phase_fields e.phase ++ (strings e.commands ++ (strings e.hidden ++ kept_explicit_in form e.explicit))

-- a record: the byte of its kind, then its fields
abbrev pub encoding_in : Form → Record → List ℕ
encoding_in form (records.Begun target) = 1 ∷ string target
encoding_in form (records.Done target commands hidden explicit) =
    2 ∷ (string target ++ (strings commands ++ (strings hidden ++ done_explicit_in form explicit)))
encoding_in form (records.Failed target status) = 3 ∷ (string target ++ number status)
encoding_in form (records.Kept target known) = 4 ∷ (string target ++ entry_fields_in form known)

-- a string whose length can be written
abbrev pub FitsString : List ℕ → Type 0
FitsString bytes = length bytes < 2 ^ 32

-- strings whose count and lengths can be written
abbrev pub FitsStrings : List (List ℕ) → Type 0
FitsStrings items = (length items < 2 ^ 32) × AllByRecursion FitsString items

-- a phase whose status is a listed one
abbrev pub FitsPhase : Phase → Type 0
FitsPhase phases.Begun = Unit {0}
FitsPhase phases.Done = Unit {0}
FitsPhase (phases.Failed status) = status ≤ 256

-- what a done record can say of its explicit names: nothing in version 1, in version 2 which they are, and in version 4 their
-- marks too
abbrev pub FitsDoneExplicit : Form → Explicit → Type 0
FitsDoneExplicit forms.Old explicit = explicit ≡ Unknown
FitsDoneExplicit forms.Plain explicit = IsNamed explicit × FitsStrings (names_known explicit)
FitsDoneExplicit forms.Marked explicit = IsMarked explicit × (FitsStrings (names_known explicit) × FitsString (marks_known explicit))

-- what a kept record can say of its explicit names: nothing in version 1, and no marks in version 2
abbrev pub FitsKeptExplicit : Form → Explicit → Type 0
FitsKeptExplicit forms.Old explicit = explicit ≡ Unknown
FitsKeptExplicit forms.Plain explicit = IsUnmarked explicit × FitsStrings (names_known explicit)
FitsKeptExplicit forms.Marked explicit = FitsStrings (names_known explicit) × FitsString (marks_known explicit)

-- an entry whose fields can be written
abbrev pub FitsEntry : Form → Entry → Type 0
FitsEntry form e = FitsPhase e.phase × (FitsStrings e.commands × (FitsStrings e.hidden × FitsKeptExplicit form e.explicit))

-- a record whose fields can be written
abbrev pub FitsRecord : Form → Record → Type 0
FitsRecord form (records.Begun target) = FitsString target
FitsRecord form (records.Done target commands hidden explicit) =
    FitsString target × (FitsStrings commands × (FitsStrings hidden × FitsDoneExplicit form explicit))
FitsRecord form (records.Failed target status) = FitsString target × (status ≤ 256)
FitsRecord form (records.Kept target known) = FitsString target × FitsEntry form known

-- ---- in a file of some version

abbrev pub done_explicit : Version → Explicit → List ℕ
done_explicit version = done_explicit_in (form_of version)

abbrev pub kept_explicit : Version → Explicit → List ℕ
kept_explicit version = kept_explicit_in (form_of version)

abbrev pub entry_fields : Version → Entry → List ℕ
entry_fields version = entry_fields_in (form_of version)

-- a record's bytes
abbrev pub encoding : Version → Record → List ℕ
encoding version = encoding_in (form_of version)
