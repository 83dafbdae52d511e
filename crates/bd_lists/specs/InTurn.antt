-- The records that a board has taken, and the order in which those of one target come. Own.
use Rattle.std.specs.Prelude.{◌≡◌, ℕ, List, [], ◌∷◌, ◌++◌, length, Option, Some, None, slice_get}
use Rattle.st_records.specs.declared.record.Record.{Record}
use Rattle.st_records.specs.declared.record.Record.TheVariants as records
use Rattle.st_records.specs.Parts.{target_of}
use Rattle.st_records.specs.declared.version.Form.{Form}
use Rattle.st_records.specs.declared.version.Form.TheVariants.{Plain}
use Rattle.bd_places.specs.Settling.{Prerequisites}
use Rattle.bd_ledger.specs.Sheet.{Sheet, AreDistinct, first_sheet_in, submits}
use Rattle.bd_lists.specs.Admission.{Run}
use Rattle.bd_lists.specs.Board.{IsTaken}

-- from a new board of records of this form, of nodes with distinct names, calls have led to this one, and it has taken these records;
-- a call that takes none changes only where nodes stand and which records wait to be drained
pub data HasTakenIn (form : Form) : (now : Sheet) → List Record → Type 0 where
  none_yet : {now : Sheet} (g : Prerequisites) (names : List (List ℕ)) → length names ≡ length g.counted → AreDistinct names
      → now ≡ first_sheet_in form g names → HasTakenIn form now []
  one_more : {before now : Sheet} {notes : List Record} (n : ℕ) (note : Record) (run : Option Run) → HasTakenIn form before notes
      → IsTaken before n note run → now ≡ submits n note before → HasTakenIn form now (notes ++ note ∷ [])
  no_more : {before now : Sheet} {notes : List Record} → HasTakenIn form before notes
      → now ≡ record before { standing = now.standing; notes = now.notes } → HasTakenIn form now notes

-- none of the records is of the target
abbrev pub LackTarget : List Record → (target : List ℕ) → Type 0
LackTarget notes target = (ticket : ℕ) (note : Record) → slice_get notes ticket ≡ Some note → target_of note ≡ target → ⊥

-- of the target there is a 'begun', with this ticket, and nothing else
pub record HaveOnlyBegun (notes : List Record) (target : List ℕ) (ticket : ℕ) : Type 0 where
  pub begun : slice_get notes ticket ≡ Some (records.Begun target)
  pub only : (other : ℕ) (note : Record) → slice_get notes other ≡ Some note → target_of note ≡ target → other ≡ ticket

-- that 'begun' is the run's
abbrev pub HaveOnlyBegunOf : List Record → (target : List ℕ) → Option Run → Type 0
HaveOnlyBegunOf notes target None = ⊥
HaveOnlyBegunOf notes target (Some run) = HaveOnlyBegun notes target run.ticket

-- behind these records the record, with this run, is in its turn: a 'begun' is the first of its target, and an end the one behind
-- the 'begun' of that very run
abbrev pub IsInTurn : List Record → Record → Option Run → Type 0
IsInTurn notes (records.Begun target) run = LackTarget notes target
IsInTurn notes (records.Done target commands hidden explicit) run = HaveOnlyBegunOf notes target run
IsInTurn notes (records.Failed target status) run = HaveOnlyBegunOf notes target run
IsInTurn notes (records.Kept target entry) run = ⊥

-- a board takes each record in its turn, whichever nodes submit: what one node's recipe came to never counts for another's
abbrev pub EachInTurnIn : Form → Type 0
EachInTurnIn form =
    (b : Sheet) (notes : List Record) (n : ℕ) (note : Record) (run : Option Run) → HasTakenIn form b notes → IsTaken b n note run
    → IsInTurn notes note run

-- ---- where records are written as in version 2

abbrev pub HasTaken : (now : Sheet) → List Record → Type 0
HasTaken = HasTakenIn Plain

abbrev pub EachInTurn : Type 0
EachInTurn = EachInTurnIn Plain
