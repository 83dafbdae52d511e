-- What the bytes of a side say: nothing, or a version, a generation and a list of records, or one fault. The format and
-- the order of faults are this project's own. Which versions are read, the form of the newest one says.
use Rattle.std.specs.Prelude.{◌≡◌, ◌≢◌, ◌⊎◌, ℕ, ◌+◌, ◌<◌, ◌^◌, Bool, true, false, List, [], ◌∷◌, ◌++◌, length}
use Rattle.std.specs.Int.{w16, w64, to_le_bytes}
use Rattle.st_disk.specs.declared.which.Which.{Which}
use Rattle.st_records.specs.declared.version.Version.{Version}
use Rattle.st_records.specs.declared.version.Form.{Form}
use Rattle.st_records.specs.declared.version.Form.TheVariants.{Plain}
use Rattle.st_records.specs.declared.record.Record.{Record}
use Rattle.st_records.specs.Forms.{form_of}
use Rattle.st_file.specs.declared.fault.OpenFault.{OpenFault}
use Rattle.st_file.specs.declared.fault.OpenFault.TheVariants as faults
use Rattle.st_file.specs.Layout.{version_number_in, IsReadIn, IsUnknownVersionIn, IsNamed, HasHeaderIn}
use Rattle.st_file.specs.Batch.{Batch, batch_encoding_in, text_of_in, IsBatchIn, AreBatchesIn, records_of, IsFramed, ComesToTargetIn}

-- a side that holds nothing yet: it is empty, or one byte, or its first gate is closed
abbrev pub IsVoid : List ℕ → Type 0
IsVoid [] = Unit {0}
IsVoid (gate ∷ []) = Unit {0}
IsVoid (gate ∷ b ∷ x) = gate ≡ 0

-- an open header of this form and generation, these batches, whose records have the form, and then the rest
pub record ReachesIn (x : List ℕ) (form : Form) (generation : ℕ) (batches : List Batch) (rest : List ℕ) : Type 0 where
  pub allowed : AreBatchesIn form true batches
  pub header : HasHeaderIn x form generation (text_of_in form batches ++ rest)

-- the side holds just these records: behind their batches, at the place end, a closed gate stands, and after it any bytes
pub record HoldsUpToIn (x : List ℕ) (form : Form) (generation : ℕ) (held : List Record) (end : ℕ) : Type 0 where
  pub batches : List Batch
  pub after : List ℕ
  pub reached : ReachesIn x form generation batches (0 ∷ after)
  pub in_order : held ≡ records_of batches
  pub place : end + length (0 ∷ after) ≡ length x

-- the side holds just these records, in a form that is read and wherever they end
abbrev pub HoldsRecordsIn : (newest : Form) → List ℕ → ℕ → List Record → Type 0
HoldsRecordsIn newest x generation held =
    (form : Form) × IsReadIn newest form × (end : ℕ) × HoldsUpToIn x form generation held end

-- the side is no state file: it isn't void, and the name doesn't stand behind its first byte
pub record IsForeign (x : List ℕ) : Type 0 where
  pub filled : IsVoid x → ⊥
  pub unnamed : (rest : List ℕ) → IsNamed x rest → ⊥

-- the version isn't all there
pub record LacksVersion (x : List ℕ) : Type 0 where
  pub rest : List ℕ
  pub named : IsNamed x rest
  pub cut : length rest < 2

-- the side has this version, which isn't read
pub record HasOtherVersionIn (newest : Form) (x : List ℕ) (version : ℕ) : Type 0 where
  pub rest : List ℕ
  pub named : IsNamed x (to_le_bytes w16 version ++ rest)
  pub fits : version < 2 ^ 16
  pub other : IsUnknownVersionIn newest version

-- behind a version that is read the generation isn't all there, or it is 0
pub record LacksGenerationIn (newest : Form) (x : List ℕ) : Type 0 where
  pub form : Form
  pub is_read : IsReadIn newest form
  pub rest : List ℕ
  pub named : IsNamed x (to_le_bytes w16 (version_number_in form) ++ rest)
  pub cut : (length rest < 8) ⊎ ((after : List ℕ) × (rest ≡ to_le_bytes w64 0 ++ after))

-- there is no gate here, or an open one with which no batch of this form begins that may stand here
abbrev pub IsStuckIn : Form → Bool → List ℕ → Type 0
IsStuckIn form first [] = Unit {0}
IsStuckIn form first (gate ∷ x) =
    (0 < gate) × ((b : Batch) (rest : List ℕ) → IsBatchIn form first b → gate ∷ x ≢ batch_encoding_in form b ++ rest)

-- whether no batch stands before this place, so that the next one is the side's first
abbrev pub is_none : List Batch → Bool
is_none [] = true
is_none (_ ∷ _) = false

-- batches reach to this place, where neither a closed gate nor a further batch stands
pub record IsBrokenIn (newest : Form) (x : List ℕ) (place : ℕ) : Type 0 where
  pub form : Form
  pub is_read : IsReadIn newest form
  pub generation : ℕ
  pub batches : List Batch
  pub rest : List ℕ
  pub reached : ReachesIn x form generation batches rest
  pub stuck : IsStuckIn form (is_none batches) rest
  pub at : place + length rest ≡ length x

-- the version isn't all there, or behind it the generation
abbrev pub LacksNumbersIn : (newest : Form) → List ℕ → ℕ → Type 0
LacksNumbersIn newest x place = ((place ≡ 9) × LacksVersion x) ⊎ ((place ≡ 11) × LacksGenerationIn newest x)

-- the side can be read up to this place and no further
abbrev pub IsDamagedAtIn : (newest : Form) → List ℕ → ℕ → Type 0
IsDamagedAtIn newest x place =
    ((place ≡ 9) × LacksVersion x) ⊎ (((place ≡ 11) × LacksGenerationIn newest x) ⊎ IsBrokenIn newest x place)

-- the side has no header that can be read, and this is its fault
abbrev pub LacksHeaderIn : (newest : Form) → Which → List ℕ → OpenFault → Type 0
LacksHeaderIn newest side x (faults.NotState s) = (s ≡ side) × IsForeign x
LacksHeaderIn newest side x (faults.UnknownVersion s version) = (s ≡ side) × HasOtherVersionIn newest x version
LacksHeaderIn newest side x (faults.Damaged s place) = (s ≡ side) × LacksNumbersIn newest x place
LacksHeaderIn newest side x faults.Device = ⊥
LacksHeaderIn newest side x faults.OutOfMemory = ⊥
LacksHeaderIn newest side x faults.SameGeneration = ⊥

-- the side is refused with this fault
abbrev pub IsRefusedIn : (newest : Form) → Which → List ℕ → OpenFault → Type 0
IsRefusedIn newest side x (faults.NotState s) = (s ≡ side) × IsForeign x
IsRefusedIn newest side x (faults.UnknownVersion s version) = (s ≡ side) × HasOtherVersionIn newest x version
IsRefusedIn newest side x (faults.Damaged s place) = (s ≡ side) × IsDamagedAtIn newest x place
IsRefusedIn newest side x faults.Device = ⊥
IsRefusedIn newest side x faults.OutOfMemory = ⊥
IsRefusedIn newest side x faults.SameGeneration = ⊥

-- the fault is one of this side's bytes; the others are of the machine, or of both sides together
abbrev pub IsOfSide : Which → OpenFault → Type 0
IsOfSide side (faults.NotState s) = s ≡ side
IsOfSide side (faults.UnknownVersion s version) = s ≡ side
IsOfSide side (faults.Damaged s place) = s ≡ side
IsOfSide side faults.Device = ⊥
IsOfSide side faults.OutOfMemory = ⊥
IsOfSide side faults.SameGeneration = ⊥

-- the ways to read a side
pub data ReadingIn : Type 0 where
  blank_in : ReadingIn
  holding_in : Form → ℕ → List Record → ℕ → ReadingIn
  refused_in : OpenFault → ReadingIn

-- the bytes of this side are read so
abbrev pub ReadsIn : (newest : Form) → Which → List ℕ → ReadingIn → Type 0
ReadsIn newest side x blank_in = IsVoid x
ReadsIn newest side x (holding_in form generation held end) = IsReadIn newest form × HoldsUpToIn x form generation held end
ReadsIn newest side x (refused_in fault) = IsRefusedIn newest side x fault

-- batches reach to an open gate with a whole frame behind it, and its body comes to a record: here, and nowhere else, memory
-- is wanted for records
pub record ComesToRecordsIn (newest : Form) (x : List ℕ) : Type 0 where
  pub form : Form
  pub is_read : IsReadIn newest form
  pub generation : ℕ
  pub batches : List Batch
  pub gate : ℕ
  pub is_open : 0 < gate
  pub behind : List ℕ
  pub reached : ReachesIn x form generation batches (gate ∷ behind)
  pub framed : IsFramed behind
  pub comes : ComesToTargetIn form (is_none batches) framed.count framed.text

-- ---- where versions 1 and 2 are read

-- the side holds just these records, in a file of this version
abbrev pub HoldsUpTo : List ℕ → Version → ℕ → List Record → ℕ → Type 0
HoldsUpTo x v = HoldsUpToIn x (form_of v)

-- in either version and wherever they end
abbrev pub HoldsRecords : List ℕ → ℕ → List Record → Type 0
HoldsRecords = HoldsRecordsIn Plain

abbrev pub IsRefused : Which → List ℕ → OpenFault → Type 0
IsRefused = IsRefusedIn Plain

abbrev pub ComesToRecords : List ℕ → Type 0
ComesToRecords = ComesToRecordsIn Plain

pub data Reading : Type 0 where
  blank : Reading
  holding : Version → ℕ → List Record → ℕ → Reading
  refused : OpenFault → Reading

-- the same, by the form of the version
abbrev pub reading_in : Reading → ReadingIn
reading_in blank = blank_in
reading_in (holding v generation held end) = holding_in (form_of v) generation held end
reading_in (refused fault) = refused_in fault

-- the bytes of this side are read so
abbrev pub Reads : Which → List ℕ → Reading → Type 0
Reads side x blank = IsVoid x
Reads side x (holding v generation held end) = HoldsUpTo x v generation held end
Reads side x (refused fault) = IsRefused side x fault
