-- A state written anew: the bytes of a side that holds nothing else, and what that side may hold until it counts. The
-- form and the steps are this project's own.
use Rattle.std.specs.Prelude.{◌≡◌, ◌⊎◌, ℕ, ◌+◌, ◌≤◌, List, [], ◌∷◌, ◌++◌, length, Some}
use Rattle.std.specs.FinMap as map
use Rattle.st_disk.specs.declared.which.Which.{Which}
use Rattle.st_disk.specs.Crash.{UnsyncedWrites, settled, other}
use Rattle.st_records.specs.declared.version.Version.{Version}
use Rattle.st_records.specs.declared.version.Version.TheVariants as versions
use Rattle.st_records.specs.declared.version.Form.{Form}
use Rattle.st_records.specs.declared.record.Entry.{Entry}
use Rattle.st_records.specs.declared.record.Record.{Record}
use Rattle.st_records.specs.declared.record.Record.TheVariants.{Kept}
use Rattle.st_records.specs.Limits.{SaysExplicitIn}
use Rattle.st_state.specs.State.{StateMap}
use Rattle.st_state.specs.Keepable.{kept_records}
use Rattle.st_file.specs.Layout.{header_text_in}
use Rattle.st_file.specs.Batch.{framed_in}
use Rattle.st_file.specs.Side.{IsVoid}
use Rattle.st_file.specs.Gated.{IsOpenBehind}
use Rattle.st_recovery.specs.Stored.{GivesWayIn}

-- these records as one batch behind an open gate; no records are no batch
abbrev pub one_batch_in : Form → List Record → List ℕ
one_batch_in form [] = []
one_batch_in form (r ∷ rs) = 1 ∷ framed_in form (r ∷ rs)

-- what stands behind the first gate of a side that holds just this state: a header of this form, one batch with a kept
-- record for each entry, in byte order of the names, and a closed gate
abbrev pub compacted_bytes_in : Form → ℕ → StateMap → List ℕ
compacted_bytes_in form generation m = header_text_in form generation ++ (one_batch_in form (kept_records m) ++ 0 ∷ [])

-- the side is cleared: it is on the disk, and at most one byte is left of it
pub record IsRetired (seen : List ℕ) (writes : UnsyncedWrites) : Type 0 where
  pub on_disk : writes ≡ settled seen
  pub bare : length seen ≤ 1

-- the first gate isn't open yet, or it is and the text stands behind it
abbrev pub IsVoidOrOpen : (text x : List ℕ) → Type 0
IsVoidOrOpen text x = IsVoid x ⊎ IsOpenBehind [] text x

-- the side still gives way to one of this generation, or the text stands on it behind an open gate
abbrev pub GivesWayOrOpenIn : (newest : Form) → ℕ → (text x : List ℕ) → Type 0
GivesWayOrOpenIn newest generation text x = GivesWayIn newest generation x ⊎ IsOpenBehind [] text x

-- the log has changed sides: it is on the other one, of the form that is written and of the next generation
pub record HasChangedSidesIn (newest : Form) (old_side new_side : Which) (form : Form) (old_generation generation : ℕ) : Type 0 where
  pub on_other : new_side ≡ other old_side
  pub is_newest : form ≡ newest
  pub next : generation ≡ old_generation + 1

-- a state says no more of explicit names than records of this form could: those of version 1 nothing, those of version 2 no marks
abbrev pub SaysNoMoreThan : Form → StateMap → Type 0
SaysNoMoreThan form m = (target : List ℕ) (entry : Entry) → map.get m target ≡ Some entry → SaysExplicitIn form (Kept target entry)

-- ---- where version 2 is written

-- the log has changed sides: it is on the other one, of version 2 and of the next generation, and isn't dead
pub record HasChangedSides (old_side new_side : Which) (v : Version) (old_generation generation : ℕ) : Type 0 where
  pub on_other : new_side ≡ other old_side
  pub is_two : v ≡ versions.Two
  pub next : generation ≡ old_generation + 1
