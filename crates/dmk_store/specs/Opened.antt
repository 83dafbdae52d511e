-- What a power cut may leave while a store is opened and compacted, and why it isn't opened. Sides are read up to the newest form,
-- which is the one that is written. Own.
use Rattle.std.specs.Prelude.{◌≡◌, ◌≢◌, ◌⊎◌, ℕ, List}
use Rattle.st_disk.specs.declared.which.Which.{Which}
use Rattle.st_disk.specs.declared.which.Which.TheVariants as which
use Rattle.st_disk.specs.Crash.{Sides, EachPair, IsCrashImage}
use Rattle.st_records.specs.declared.version.Form.{Form}
use Rattle.st_state.specs.State.{StateMap}
use Rattle.st_file.specs.declared.fault.OpenFault.{OpenFault}
use Rattle.st_file.specs.declared.fault.OpenFault.TheVariants as open_faults
use Rattle.st_recovery.specs.Recovers.{RecoversIn, RefusesWithIn}
use Rattle.st_recovery.specs.Stored.{IsStoredOnIn}
use Rattle.bd_flusher.specs.declared.fault.FlushFault.{FlushFault}
use Rattle.bd_flusher.specs.declared.fault.FlushFault.TheVariants as refusals
use Rattle.dmk_messages.specs.declared.fault.Fault.{Fault}
use Rattle.dmk_messages.specs.declared.fault.Fault.TheVariants as faults
use Rattle.jb_closing.specs.declared.fault.RunFault.{RunFault}
use Rattle.jb_closing.specs.declared.fault.RunFault.TheVariants as run_faults
use Rattle.dmk_store.specs.declared.stop.Stop.{Stop}
use Rattle.dmk_store.specs.declared.stop.Stop.TheVariants as stops

-- the state that both sides recovered before
abbrev pub RecoversAs : (newest : Form) → (seen : Which → List ℕ) → (a b : List ℕ) → Type 0
RecoversAs newest seen a b = (m : StateMap) × RecoversIn newest (seen which.A) (seen which.B) m × RecoversIn newest a b m

-- an honest disk recovers no other state than before: what it recovers now it recovered then
abbrev pub RecoversAsBefore : (newest : Form) → (disk_honest : Type 0) (before now : Which → List ℕ) → Type 0
RecoversAsBefore newest disk_honest before now =
    disk_honest → (m : StateMap) → RecoversIn newest (now which.A) (now which.B) m → RecoversIn newest (before which.A) (before which.B) m

-- every pair of crash images was one at this start, or recovers the state that the sides recovered
abbrev pub ArePossibleOrRecover : (newest : Form) → (seen : Which → List ℕ) → (start : Sides) → Sides → Type 0
ArePossibleOrRecover newest seen start = EachPair (λ a b. ∥ (IsCrashImage start.a a × IsCrashImage start.b b) ⊎ RecoversAs newest seen a b ∥₁)

-- the state stands on a side of an older form
pub record StandsInOlder (newest : Form) (seen : Which → List ℕ) (sides : Sides) (m : StateMap) : Type 0 where
  pub side : Which
  pub form : Form
  pub older : form ≢ newest
  pub generation : ℕ
  pub end : ℕ
  pub stored : IsStoredOnIn newest seen sides side form generation end m

-- why a store isn't compacted: a call of the device failed, or what is so of a side that has to change
abbrev pub IsNotCompacted : (stands : Type 0) → FlushFault → Type 0
IsNotCompacted stands refusals.Device = Unit {0}
IsNotCompacted stands refusals.OutOfMemory = stands
IsNotCompacted stands refusals.Full = stands
IsNotCompacted stands refusals.OldVersion = stands
IsNotCompacted stands refusals.Dead = ⊥
IsNotCompacted stands (refusals.OutOfTurn ticket turn) = ⊥
IsNotCompacted stands (refusals.Unknown ticket) = ⊥

-- so it is told
abbrev pub TellsNotCompacted : (stands : Type 0) → RunFault → Type 0
TellsNotCompacted stands (run_faults.Flush fault) = IsNotCompacted stands fault
TellsNotCompacted stands run_faults.OutOfMemory = ⊥
TellsNotCompacted stands run_faults.Start = ⊥

-- why two sides aren't opened: the machine's fault, or theirs
abbrev pub AreNotOpened : (newest : Form) → (seen : Which → List ℕ) → OpenFault → Type 0
AreNotOpened newest seen fault =
    (fault ≡ open_faults.Device) ⊎ ((fault ≡ open_faults.OutOfMemory) ⊎ RefusesWithIn newest (seen which.A) (seen which.B) fault)

-- before anything is written, the sides' fault alone
abbrev pub TellsNotOpened : (newest : Form) → (honest : Type 0) → (seen : Which → List ℕ) → Fault → Type 0
TellsNotOpened newest honest seen (faults.State fault) = honest → AreNotOpened newest seen fault
TellsNotOpened newest honest seen _ = ⊥

-- why there is no store: the sides aren't opened, or they recover a state that isn't compacted and, where the device isn't to
-- blame, still stands on a side of an older form of what is handed back
abbrev pub IsWhyNotOpened : (newest : Form) → (honest : Type 0) → (seen left_seen : Which → List ℕ) → (left : Sides) → Stop → Type 0
IsWhyNotOpened newest honest seen left_seen left (stops.Before fault) = TellsNotOpened newest honest seen fault
IsWhyNotOpened newest honest seen left_seen left stops.HeldAbove = ⊥
IsWhyNotOpened newest honest seen left_seen left (stops.NotOnDisk _) = ⊥
IsWhyNotOpened newest honest seen left_seen left (stops.Parted _) = ⊥
IsWhyNotOpened newest honest seen left_seen left (stops.Run fault) =
    TellsNotCompacted (honest → (m : StateMap) × RecoversIn newest (seen which.A) (seen which.B) m × StandsInOlder newest left_seen left m) fault

-- the device is to blame
abbrev pub IsOfDevice : Stop → Type 0
IsOfDevice stop = (stop ≡ stops.Before (faults.State open_faults.Device)) ⊎ (stop ≡ stops.Run (run_faults.Flush refusals.Device))
