-- The parts of a record, whatever its kind.
use Rattle.std.specs.Prelude.{ℕ, Bool, true, false, List, [], ◌∷◌, ◌++◌, Option, None, Some}
use Rattle.st_records.specs.declared.record.Phase.{Phase}
use Rattle.st_records.specs.declared.record.Phase.TheVariants as phases
use Rattle.st_records.specs.declared.record.Explicit.{Explicit}
use Rattle.st_records.specs.declared.record.Explicit.TheVariants.{Unknown, Known, Marked}
use Rattle.st_records.specs.declared.record.Named.{Named}
use Rattle.st_records.specs.declared.record.Named.TheVariants as named
use Rattle.st_records.specs.declared.record.Record.{Record}
use Rattle.st_records.specs.declared.record.Record.TheVariants as records

-- the target of which a record speaks
abbrev pub target_of : Record → List ℕ
target_of (records.Begun target) = target
target_of (records.Done target commands hidden explicit) = target
target_of (records.Failed target status) = target
target_of (records.Kept target entry) = target

-- the commands that a record holds
abbrev pub commands_of : Record → List (List ℕ)
commands_of (records.Begun target) = []
commands_of (records.Done target commands hidden explicit) = commands
commands_of (records.Failed target status) = []
commands_of (records.Kept target entry) = entry.commands

-- the hidden names that a record holds
abbrev pub hidden_of : Record → List (List ℕ)
hidden_of (records.Begun target) = []
hidden_of (records.Done target commands hidden explicit) = hidden
hidden_of (records.Failed target status) = []
hidden_of (records.Kept target entry) = entry.hidden

-- what a record says of the explicit prerequisites: nothing of those of a recipe that was not run to its end
abbrev pub explicit_of : Record → Explicit
explicit_of (records.Begun target) = Unknown
explicit_of (records.Done target commands hidden explicit) = explicit
explicit_of (records.Failed target status) = Unknown
explicit_of (records.Kept target entry) = entry.explicit

-- what is said of explicit names, where it is lent
abbrev pub explicit_from : Named → Explicit
explicit_from named.Unknown = Unknown
explicit_from (named.Known names) = Known names
explicit_from (named.Marked names marks) = Marked names marks.now

-- explicit names as a list, empty where they are unknown
abbrev pub names_known : Explicit → List (List ℕ)
names_known Unknown = []
names_known (Known names) = names
names_known (Marked names marks) = names

-- the same, where they are known
abbrev pub names_recorded : Explicit → Option (List (List ℕ))
names_recorded Unknown = None
names_recorded (Known names) = Some names
names_recorded (Marked names marks) = Some names

-- the text of the marks, empty where there are none
abbrev pub marks_known : Explicit → List ℕ
marks_known Unknown = []
marks_known (Known names) = []
marks_known (Marked names marks) = marks

-- the names are known, and their marks aren't
abbrev pub IsNamed : Explicit → Type 0
IsNamed Unknown = ⊥
IsNamed (Known names) = Unit {0}
IsNamed (Marked names marks) = ⊥

-- both are known
abbrev pub IsMarked : Explicit → Type 0
IsMarked Unknown = ⊥
IsMarked (Known names) = ⊥
IsMarked (Marked names marks) = Unit {0}

-- marks aren't known
abbrev pub IsUnmarked : Explicit → Type 0
IsUnmarked Unknown = Unit {0}
IsUnmarked (Known names) = Unit {0}
IsUnmarked (Marked names marks) = ⊥

-- the names in a record: its target, its hidden names, and its explicit ones
abbrev pub names_of : Record → List (List ℕ)
names_of r = target_of r ∷ (hidden_of r ++ names_known (explicit_of r))

-- the status of a phase, 0 where nothing failed
abbrev pub phase_status : Phase → ℕ
phase_status phases.Begun = 0
phase_status phases.Done = 0
phase_status (phases.Failed status) = status

-- the status that a record holds, 0 where nothing failed
abbrev pub status_of : Record → ℕ
status_of (records.Begun target) = 0
status_of (records.Done target commands hidden explicit) = 0
status_of (records.Failed target status) = status
status_of (records.Kept target entry) = phase_status entry.phase

-- a record that says all that was known of its target
abbrev pub is_kept : Record → Bool
is_kept (records.Begun target) = false
is_kept (records.Done target commands hidden explicit) = false
is_kept (records.Failed target status) = false
is_kept (records.Kept target entry) = true
