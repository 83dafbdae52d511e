-- What is left on a disk where targets are to be taken as they are, read up to the newest form, which is the one that is written.
-- Own.
use Rattle.std.specs.Prelude.{◌≡◌, ◌≢◌, ◌⊎◌, ℕ, List, length}
use Rattle.std.specs.FinMap as map
use Rattle.mk_nodes.specs.declared.graph.Graph.{Graph}
use Rattle.st_disk.specs.declared.which.Which.{Which}
use Rattle.st_disk.specs.declared.which.Which.TheVariants as which
use Rattle.st_disk.specs.Crash.{Sides, EachPair, IsCrashImage}
use Rattle.st_records.specs.declared.record.Record.{Record}
use Rattle.st_state.specs.State.{StateMap, replay}
use Rattle.st_records.specs.declared.version.Form.{Form}
use Rattle.st_recovery.specs.Recovers.{RecoversIn}
use Rattle.st_recovery.specs.Stored.{AllRecoverIn}
use Rattle.dmk_store.specs.Opened.{RecoversAs}
use Rattle.dmk_trust.specs.Taken.{AreTaken}
use Rattle.dmk_printing.specs.declared.trusted.Trusted.{Trusted}
use Rattle.dmk_printing.specs.declared.trusted.Trusted.TheVariants as trusted

-- every pair of crash images recovers this state, or that with the records of all targets of the graph that are taken as they are
abbrev pub AllRecoverTaken : (newest : Form) → Graph → StateMap → Sides → Type 0
AllRecoverTaken newest graph m =
    EachPair (λ a b. ∥ RecoversIn newest a b m ⊎ ((taken : List Record) × AreTaken newest graph taken × RecoversIn newest a b (replay m taken)) ∥₁)

-- the state of all targets that are taken of the graph that is wanted, where nothing was known of any; there are so many
pub record IsOfTaken (newest : Form) (IsWanted : Graph → Type 0) (left : StateMap) (count : ℕ) : Type 0 where
  pub graph : Graph
  pub is_wanted : IsWanted graph
  pub taken : List Record
  pub are_taken : AreTaken newest graph taken
  pub is_left : left ≡ replay map.empty taken
  pub counted : length taken ≡ count

-- the state that is left of the one that was: the same where something is known of a target, and else that of those that are taken
abbrev pub IsLeft : (newest : Form) → (IsWanted : Graph → Type 0) → (was left : StateMap) → Trusted → Type 0
IsLeft newest IsWanted was left trusted.Unkept = ⊥
IsLeft newest IsWanted was left trusted.Known = (was ≢ map.empty) × (left ≡ was)
IsLeft newest IsWanted was left (trusted.Taken count) = (was ≡ map.empty) × IsOfTaken newest IsWanted left count

-- the state that is left, of what the sides recovered and of what every pair of crash images recovers now
pub record LeavesState (newest : Form) (IsWanted : Graph → Type 0) (seen : Which → List ℕ) (sides : Sides) (found : Trusted) : Type 0 where
  pub was : StateMap
  pub recovered : RecoversIn newest (seen which.A) (seen which.B) was
  pub left : StateMap
  pub is_left : IsLeft newest IsWanted was left found
  pub recovers : AllRecoverIn newest left sides

-- the state was empty, and the pair recovers that of the targets that are taken
abbrev pub RecoversTaken : (newest : Form) → (IsWanted : Graph → Type 0) → (was : StateMap) → (a b : List ℕ) → Type 0
RecoversTaken newest IsWanted was a b = (was ≡ map.empty) × (left : StateMap) × (count : ℕ) × IsOfTaken newest IsWanted left count × RecoversIn newest a b left

-- every pair of crash images recovers the state that was, or where that is empty the one of the targets that are taken
abbrev pub AllRecoverOrTaken : (newest : Form) → (IsWanted : Graph → Type 0) → (was : StateMap) → Sides → Type 0
AllRecoverOrTaken newest IsWanted was = EachPair (λ a b. ∥ RecoversIn newest a b was ⊎ RecoversTaken newest IsWanted was a b ∥₁)

-- every pair of crash images was one at this start, or recovers the state that the sides recovered, or where that is empty the one of
-- the targets that are taken
abbrev pub ArePossibleOrTaken : (newest : Form) → (IsWanted : Graph → Type 0) → (seen : Which → List ℕ) → (start : Sides) → Sides → Type 0
ArePossibleOrTaken newest IsWanted seen start =
    EachPair (λ a b. ∥ (IsCrashImage start.a a × IsCrashImage start.b b) ⊎ (RecoversAs newest seen a b
    ⊎ ((was : StateMap) × RecoversIn newest (seen which.A) (seen which.B) was × RecoversTaken newest IsWanted was a b)) ∥₁)
