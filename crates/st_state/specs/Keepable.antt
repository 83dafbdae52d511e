-- A state written anew: each entry, under its name, as a kept record of some form; and which states can be written so.
use Rattle.std.specs.Prelude.{◌≡◌, ℕ, List, Some, length, map as list_map}
use Rattle.std.specs.List.{flat_map}
use Rattle.std.specs.FinMap as map
use Rattle.st_records.specs.declared.version.Form.{Form}
use Rattle.st_records.specs.declared.version.Form.TheVariants as forms
use Rattle.st_records.specs.declared.record.Entry.{Entry}
use Rattle.st_records.specs.declared.record.Record.{Record}
use Rattle.st_records.specs.declared.record.Record.TheVariants.{Kept}
use Rattle.st_records.specs.Encoding.{encoding_in}
use Rattle.st_records.specs.Limits.{IsGoodIn}
use Rattle.st_state.specs.State.{StateMap}

-- the record that says all of one entry
abbrev pub kept_record : List ℕ × Entry → Record
kept_record named = Kept named.0 named.1

-- just one such record for each entry, in byte order of the names
abbrev pub kept_records : StateMap → List Record
kept_records m = list_map kept_record (map.entries m)

-- how many bytes these records are in a form
abbrev pub kept_bytes_in : Form → StateMap → ℕ
kept_bytes_in form m = length (flat_map (encoding_in form) (kept_records m))

-- an entry of this target can be written in a form
abbrev pub CanBeKeptIn : Form → List ℕ → Entry → Type 0
CanBeKeptIn form target entry = IsGoodIn form (Kept target entry)

-- and so can each entry of a state
abbrev pub AllCanBeKeptIn : Form → StateMap → Type 0
AllCanBeKeptIn form m = (target : List ℕ) (entry : Entry) → map.get m target ≡ Some entry → CanBeKeptIn form target entry

-- what records of the one form say, records of the other can say too: the form is the same, or it came later
abbrev pub SaysAllOf : (written read : Form) → Type 0
SaysAllOf forms.Old forms.Old = Unit {0}
SaysAllOf forms.Old forms.Plain = ⊥
SaysAllOf forms.Old forms.Marked = ⊥
SaysAllOf forms.Plain forms.Old = Unit {0}
SaysAllOf forms.Plain forms.Plain = Unit {0}
SaysAllOf forms.Plain forms.Marked = ⊥
SaysAllOf forms.Marked forms.Old = Unit {0}
SaysAllOf forms.Marked forms.Plain = Unit {0}
SaysAllOf forms.Marked forms.Marked = Unit {0}

-- ---- in a file of version 2

-- how many bytes these records are
abbrev pub kept_bytes : StateMap → ℕ
kept_bytes = kept_bytes_in forms.Plain

-- each entry of a state can be written
abbrev pub AllCanBeKept : StateMap → Type 0
AllCanBeKept = AllCanBeKeptIn forms.Plain
