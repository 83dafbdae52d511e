-- What the closing report of a run says of the store, and when it is refused. Own.
use Rattle.std.specs.Prelude.{◌≡◌, ◌⊎◌, ℕ, ◌<◌, ◌≤◌, List, length, Contains, Some, slice_get}
use Rattle.mk_names.specs.Names.{name_at}
use Rattle.st_disk.specs.Crash.{Sides, EachPair}
use Rattle.st_records.specs.declared.version.Form.{Form}
use Rattle.st_records.specs.declared.record.Record.{Record}
use Rattle.st_records.specs.Parts.{commands_of}
use Rattle.st_state.specs.State.{StateMap}
use Rattle.st_recovery.specs.Recovers.{RecoversIn}
use Rattle.bd_places.specs.declared.end.End.{End}
use Rattle.bd_places.specs.declared.end.End.TheVariants.{Built}
use Rattle.bd_flusher.specs.declared.site.receipt.Receipt.{Receipt}
use Rattle.bd_flusher.specs.declared.fault.FlushFault.{FlushFault}
use Rattle.bd_flusher.specs.declared.fault.FlushFault.TheVariants as flush_faults
use Rattle.jb_closing.specs.declared.fault.RunFault.{RunFault}
use Rattle.jb_closing.specs.declared.fault.RunFault.TheVariants as faults
use Rattle.jb_closing.specs.Agreement.{AreThoseOf, IsFirstDifference}
use Rattle.jb_closing.specs.Last.{IsLast, IsDoneRecord, IsDoneIn, EndsDone}

-- the node has this name
abbrev pub IsNamed : (names : List (List ℕ)) → (node : ℕ) → (name : List ℕ) → Type 0
IsNamed names node name = (node < length names) × (name_at names node ≡ name)

-- the node ended as built
abbrev pub IsBuilt : (ends : List End) → (node : ℕ) → Type 0
IsBuilt ends node = slice_get ends node ≡ Some Built

-- in every pair of crash images, read up to this newest form, the target is done with these commands
abbrev pub IsDoneOnDisk : (newest : Form) → (target : List ℕ) → (commands : List (List ℕ)) → Sides → Type 0
IsDoneOnDisk newest target commands = EachPair (λ a b. ∥ ((m : StateMap) × RecoversIn newest a b m × IsDoneIn m target commands) ∥₁)

-- a built node of this name: its last told record is a 'done', a worker gathered the receipt of it, and where the disk keeps
-- its model and no call of it has failed, the target is done with that record's commands whatever power cut comes
pub record IsTrueOf (newest : Form) (told : List Record) (receipts : List Receipt) (sound : Type 0) (sides : Sides) (name : List ℕ) : Type 0 where
  pub note : Record
  pub last : IsLast told name note
  pub done : IsDoneRecord note
  pub receipt : Receipt
  pub gathered : Contains receipts receipt
  pub notes : receipt.noted ≡ note
  pub on_disk : sound → IsDoneOnDisk newest name (commands_of note) sides

-- so it is of each node that ended as built
abbrev pub AreTrueOf : (newest : Form) → (told : List Record) → List Receipt → (sound : Type 0) → Sides → (names : List (List ℕ)) → (ends : List End) → Type 0
AreTrueOf newest told receipts sound sides names ends =
    (node : ℕ) → IsBuilt ends node → (name : List ℕ) × IsNamed names node name × IsTrueOf newest told receipts sound sides name

-- the last told record of each node that ended as built is a 'done'
abbrev pub AllEndDone : (told : List Record) → (names : List (List ℕ)) → (ends : List End) → Type 0
AllEndDone told names ends = (node : ℕ) → IsBuilt ends node → (name : List ℕ) × IsNamed names node name × EndsDone told name

-- the node ended as built, and its last told record is no 'done', or it has none, or no name
abbrev pub LacksDoneAt : (told : List Record) → (names : List (List ℕ)) → (ends : List End) → (node : ℕ) → Type 0
LacksDoneAt told names ends node =
    IsBuilt ends node × ((length names ≤ node) ⊎ ((name : List ℕ) × IsNamed names node name × (EndsDone told name → ⊥)))

-- some node lacks it
abbrev pub LacksDone : (told : List Record) → (names : List (List ℕ)) → (ends : List End) → Type 0
LacksDone told names ends = (node : ℕ) × LacksDoneAt told names ends node

-- the ticket of a refusal: the first at which told and the receipts differ, or, where they agree, the length of told
abbrev pub IsRefusedAt : (told : List Record) → List Receipt → (names : List (List ℕ)) → (ends : List End) → (ticket : ℕ) → Type 0
IsRefusedAt told receipts names ends ticket =
    IsFirstDifference told receipts ticket
    ⊎ (AreThoseOf told receipts × LacksDone told names ends × (ticket ≡ length told))

-- why a flush fault refuses a report, where the site may write another form than the run: no other than these two do
abbrev pub IsRefusal : (writes_another : Type 0) → (told : List Record) → List Receipt → (names : List (List ℕ)) → (ends : List End) → FlushFault → Type 0
IsRefusal writes_another told receipts names ends (flush_faults.Unknown ticket) = IsRefusedAt told receipts names ends ticket
IsRefusal writes_another told receipts names ends flush_faults.OldVersion = writes_another
IsRefusal writes_another told receipts names ends _ = ⊥

-- why a report is refused; want of memory may come of any report
abbrev pub IsReportFault : (writes_another : Type 0) → (told : List Record) → List Receipt → (names : List (List ℕ)) → (ends : List End) → RunFault → Type 0
IsReportFault writes_another told receipts names ends faults.OutOfMemory = Unit {0}
IsReportFault writes_another told receipts names ends faults.Start = ⊥
IsReportFault writes_another told receipts names ends (faults.Flush fault) = IsRefusal writes_another told receipts names ends fault
