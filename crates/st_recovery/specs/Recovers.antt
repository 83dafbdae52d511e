-- What the bytes of two sides recover, or the fault with which they are refused. The rule is this project's own. Which
-- versions are read, the form of the newest one says.
use Rattle.std.specs.Prelude.{◌≡◌, ◌⊎◌, ℕ, ◌<◌, List, Option, Some, None, Result, Ok, Err}
use Rattle.std.specs.FinMap as map
use Rattle.st_disk.specs.declared.which.Which.{Which}
use Rattle.st_disk.specs.declared.which.Which.TheVariants as sides
use Rattle.st_records.specs.declared.version.Version.{Version}
use Rattle.st_records.specs.declared.version.Form.{Form}
use Rattle.st_records.specs.declared.version.Form.TheVariants.{Plain}
use Rattle.st_records.specs.declared.record.Record.{Record}
use Rattle.st_records.specs.Forms.{form_of}
use Rattle.st_state.specs.State.{StateMap, replay}
use Rattle.st_file.specs.declared.fault.OpenFault.{OpenFault}
use Rattle.st_file.specs.declared.fault.OpenFault.TheVariants as faults
use Rattle.st_file.specs.declared.side.ExtentIn.{ExtentIn}
use Rattle.st_file.specs.Layout.{IsReadIn}
use Rattle.st_file.specs.Sink.{HasTakenGoodIn}
use Rattle.st_file.specs.Side.{IsVoid, HoldsUpToIn, HoldsRecordsIn, IsRefusedIn, ComesToRecordsIn}

-- the side holds records and this generation
abbrev pub HoldsGenerationIn : (newest : Form) → List ℕ → ℕ → Type 0
HoldsGenerationIn newest x generation = (held : List Record) × HoldsRecordsIn newest x generation held

-- one side counts: it holds records, of this form, which is read, and of this generation and up to this end, which make this
-- state of the empty one, and the other side is void or holds a smaller generation
pub record CountsIn (newest : Form) (x other : List ℕ) (form : Form) (generation end : ℕ) (m : StateMap) : Type 0 where
  pub is_read : IsReadIn newest form
  pub held : List Record
  pub holds : HoldsUpToIn x form generation held end
  pub over : IsVoid other ⊎ ((smaller : ℕ) × HoldsGenerationIn newest other smaller × (smaller < generation))
  pub state_is : m ≡ replay map.empty held

-- it counts, whatever its form, its generation and its end are
pub record WinsIn (newest : Form) (x other : List ℕ) (m : StateMap) : Type 0 where
  pub form : Form
  pub generation : ℕ
  pub end : ℕ
  pub counts : CountsIn newest x other form generation end m

-- of a pair this side counts
abbrev pub IsChosenIn : (newest : Form) → List ℕ → List ℕ → Which → Form → ℕ → ℕ → StateMap → Type 0
IsChosenIn newest a b sides.A form generation end m = CountsIn newest a b form generation end m
IsChosenIn newest a b sides.B form generation end m = CountsIn newest b a form generation end m

-- the pair recovers this state: the empty one where both sides are void, else that of the side which counts
abbrev pub RecoversIn : (newest : Form) → List ℕ → List ℕ → StateMap → Type 0
RecoversIn newest a b m = (IsVoid a × IsVoid b × (m ≡ map.empty)) ⊎ (WinsIn newest a b m ⊎ WinsIn newest b a m)

-- a side was read off so: it is void, or it holds up to this end records that make this state of the empty one
abbrev pub WasReadIn : (newest : Form) → List ℕ → Option ExtentIn → StateMap → Type 0
WasReadIn newest x None m = IsVoid x
WasReadIn newest x (Some e) m =
    IsReadIn newest e.form × ((held : List Record) × HoldsUpToIn x e.form e.generation held e.end × (m ≡ replay map.empty held))

-- good records of this form made this state of the empty one
abbrev pub IsMadeOf : Form → StateMap → Type 0
IsMadeOf form m = HasTakenGoodIn (λ n rs. n ≡ replay map.empty rs) form m

-- the side isn't refused by itself: it is void or holds records
abbrev pub IsWholeIn : (newest : Form) → List ℕ → Type 0
IsWholeIn newest x = IsVoid x ⊎ ((generation : ℕ) × HoldsGenerationIn newest x generation)

-- both sides hold records and one generation, so neither counts
abbrev pub HaveOneGenerationIn : (newest : Form) → List ℕ → List ℕ → Type 0
HaveOneGenerationIn newest a b =
    (generation : ℕ) × HoldsGenerationIn newest a generation × HoldsGenerationIn newest b generation

-- the pair is refused with this fault: side A's, else side B's, else that both have one generation
abbrev pub RefusesWithIn : (newest : Form) → List ℕ → List ℕ → OpenFault → Type 0
RefusesWithIn newest a b fault =
    IsRefusedIn newest sides.A a fault
    ⊎ ((IsWholeIn newest a × IsRefusedIn newest sides.B b fault)
    ⊎ ((fault ≡ faults.SameGeneration) × HaveOneGenerationIn newest a b))

-- reading the pair comes to records: to those of side A or, where side A isn't refused, to those of side B
abbrev pub PairComesToRecordsIn : (newest : Form) → List ℕ → List ℕ → Type 0
PairComesToRecordsIn newest a b = ComesToRecordsIn newest a ⊎ (IsWholeIn newest a × ComesToRecordsIn newest b)

-- what may come of a pair
pub data Outcome : Type 0 where
  recovered : StateMap → Outcome
  refused : OpenFault → Outcome

-- this comes of the pair
abbrev pub HasOutcomeIn : (newest : Form) → List ℕ → List ℕ → Outcome → Type 0
HasOutcomeIn newest a b (recovered m) = RecoversIn newest a b m
HasOutcomeIn newest a b (refused fault) = RefusesWithIn newest a b fault

-- what was answered, as an outcome; none where memory ran out
abbrev pub outcome_of : Result StateMap OpenFault → Option Outcome
outcome_of (Ok m) = Some (recovered m)
outcome_of (Err (faults.NotState s)) = Some (refused (faults.NotState s))
outcome_of (Err (faults.UnknownVersion s version)) = Some (refused (faults.UnknownVersion s version))
outcome_of (Err (faults.Damaged s place)) = Some (refused (faults.Damaged s place))
outcome_of (Err faults.Device) = Some (refused faults.Device)
outcome_of (Err faults.OutOfMemory) = None
outcome_of (Err faults.SameGeneration) = Some (refused faults.SameGeneration)

-- ---- where versions 1 and 2 are read

abbrev pub HoldsGeneration : List ℕ → ℕ → Type 0
HoldsGeneration = HoldsGenerationIn Plain

abbrev pub IsChosen : List ℕ → List ℕ → Which → Version → ℕ → ℕ → StateMap → Type 0
IsChosen a b side v = IsChosenIn Plain a b side (form_of v)

abbrev pub Recovers : List ℕ → List ℕ → StateMap → Type 0
Recovers = RecoversIn Plain

abbrev pub IsWhole : List ℕ → Type 0
IsWhole = IsWholeIn Plain

abbrev pub RefusesWith : List ℕ → List ℕ → OpenFault → Type 0
RefusesWith = RefusesWithIn Plain

abbrev pub PairComesToRecords : List ℕ → List ℕ → Type 0
PairComesToRecords = PairComesToRecordsIn Plain

abbrev pub HasOutcome : List ℕ → List ℕ → Outcome → Type 0
HasOutcome = HasOutcomeIn Plain
