-- The last record of a target. Own.
use Rattle.std.specs.Prelude.{◌≡◌, ℕ, ◌+◌, ◌≤◌, List, length, Option, Some, None, slice_get}
use Rattle.std.specs.FinMap as map
use Rattle.mk_names.specs.Names.{name_at}
use Rattle.st_records.specs.declared.record.Record.{Record}
use Rattle.st_records.specs.declared.record.Record.TheVariants as records
use Rattle.st_records.specs.declared.record.Entry.{Entry}
use Rattle.st_records.specs.declared.record.Phase.TheVariants as phases
use Rattle.st_records.specs.Parts.{target_of}
use Rattle.st_state.specs.State.{StateMap}

-- no record from this place on is of the target
abbrev pub IsSilentFrom : (from : ℕ) → (target : List ℕ) → List Record → Type 0
IsSilentFrom from target notes = (place : ℕ) (note : Record) → from ≤ place → slice_get notes place ≡ Some note → target_of note ≡ target → ⊥

-- the record stands at this place, is of the target, and none behind it is
pub record IsLastAt (notes : List Record) (target : List ℕ) (place : ℕ) (note : Record) : Type 0 where
  pub stands : slice_get notes place ≡ Some note
  pub own : target_of note ≡ target
  pub silent : IsSilentFrom (place + 1) target notes

-- it is the last record of the target
abbrev pub IsLast : List Record → (target : List ℕ) → Record → Type 0
IsLast notes target note = (place : ℕ) × IsLastAt notes target place note

-- the place of a target's last record, if there is one
abbrev pub IsLastPlace : List Record → (target : List ℕ) → Option ℕ → Type 0
IsLastPlace notes target None = IsSilentFrom 0 target notes
IsLastPlace notes target (Some place) = (note : Record) × IsLastAt notes target place note

-- the place of the last record of each name
pub record ArePlaces (notes : List Record) (names : List (List ℕ)) (places : List (Option ℕ)) : Type 0 where
  pub each_one : length places ≡ length names
  pub place : (node : ℕ) (at : Option ℕ) → slice_get places node ≡ Some at → IsLastPlace notes (name_at names node) at

-- a 'done' with its fields, whatever they are
abbrev pub IsDoneRecord : Record → Type 0
IsDoneRecord (records.Begun target) = ⊥
IsDoneRecord (records.Done target commands hidden explicit) = Unit {0}
IsDoneRecord (records.Failed target status) = ⊥
IsDoneRecord (records.Kept target entry) = ⊥

-- the last record of the target is a 'done'
abbrev pub EndsDone : List Record → (target : List ℕ) → Type 0
EndsDone notes target = (note : Record) × IsLast notes target note × IsDoneRecord note

-- in the state the target is done with these commands
pub record IsDoneIn (m : StateMap) (target : List ℕ) (commands : List (List ℕ)) : Type 0 where
  pub entry : Entry
  pub found : map.get m target ≡ Some entry
  pub phase : entry.phase ≡ phases.Done
  pub commands_are : entry.commands ≡ commands
