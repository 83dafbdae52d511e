-- What two sides recover, or the fault with which they are refused, where versions 1, 2 and 4 are read, as they are for a listing.
use Rattle.std.specs.Prelude.{ℕ, List}
use Rattle.st_records.specs.declared.version.Form.TheVariants.{Marked}
use Rattle.st_state.specs.State.{StateMap}
use Rattle.st_file.specs.declared.fault.OpenFault.{OpenFault}
use Rattle.st_recovery.specs.Recovers.{Outcome, HasOutcomeIn, RecoversIn, RefusesWithIn, PairComesToRecordsIn}

abbrev pub Recovers : List ℕ → List ℕ → StateMap → Type 0
Recovers = RecoversIn Marked

abbrev pub RefusesWith : List ℕ → List ℕ → OpenFault → Type 0
RefusesWith = RefusesWithIn Marked

abbrev pub PairComesToRecords : List ℕ → List ℕ → Type 0
PairComesToRecords = PairComesToRecordsIn Marked

abbrev pub HasOutcome : List ℕ → List ℕ → Outcome → Type 0
HasOutcome = HasOutcomeIn Marked
