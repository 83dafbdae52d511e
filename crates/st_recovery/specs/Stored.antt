-- A store on a disk, and what every pair of crash images of it recovers. The rule is this project's own.
use Rattle.std.specs.Prelude.{◌≡◌, ◌⊎◌, ℕ, ◌+◌, ◌<◌, ◌≤◌, List, length}
use Rattle.std.specs.FinMap as map
use Rattle.st_disk.specs.declared.which.Which.{Which}
use Rattle.st_disk.specs.declared.which.Which.TheVariants.{A}
use Rattle.st_disk.specs.Crash.{UnsyncedWrites, IsCrashImage, settled, Sides, writes_of, other, EachPair}
use Rattle.st_disk.specs.Moments.{Moments}
use Rattle.st_records.specs.declared.version.Version.{Version}
use Rattle.st_records.specs.declared.version.Version.TheVariants as versions
use Rattle.st_records.specs.declared.version.Form.{Form}
use Rattle.st_records.specs.declared.version.Form.TheVariants.{Plain}
use Rattle.st_records.specs.declared.record.Record.{Record}
use Rattle.st_records.specs.Forms.{form_of}
use Rattle.st_state.specs.State.{StateMap, replay}
use Rattle.st_file.specs.declared.layout.TheConstants.{HEADER_BYTES}
use Rattle.st_file.specs.Layout.{IsReadIn}
use Rattle.st_file.specs.Side.{IsVoid, HoldsUpToIn}
use Rattle.st_recovery.specs.Recovers.{HoldsGenerationIn, RecoversIn}

-- a side of this generation counts over a side of these bytes
abbrev pub GivesWayIn : (newest : Form) → ℕ → List ℕ → Type 0
GivesWayIn newest generation x = IsVoid x ⊎ ((smaller : ℕ) × HoldsGenerationIn newest x smaller × (smaller < generation))

-- the side that counts is on the disk just as reads give it, and holds up to its end records that make this state of the
-- empty one; the other side is on the disk too, and gives way
pub record IsStoredIn (newest : Form) (seen : List ℕ) (writes away : UnsyncedWrites) (form : Form) (generation end : ℕ) (m : StateMap) : Type 0 where
  pub on_disk : writes ≡ settled seen
  pub is_read : IsReadIn newest form
  pub held : List Record
  pub holds : HoldsUpToIn seen form generation held end
  pub state_is : m ≡ replay map.empty held
  pub away_on_disk : away ≡ settled away.synced
  pub over : (x : List ℕ) → IsCrashImage away x → GivesWayIn newest generation x

-- so it is of this side of a disk, by what reads give and what a crash may leave
abbrev pub IsStoredOnIn : (newest : Form) → (Which → List ℕ) → Sides → Which → Form → ℕ → ℕ → StateMap → Type 0
IsStoredOnIn newest seen sides side form generation end m =
    ∥ IsStoredIn newest (seen side) (writes_of side sides) (writes_of (other side) sides) form generation end m ∥₁

-- every pair of crash images recovers this state
abbrev pub AllRecoverIn : (newest : Form) → StateMap → Sides → Type 0
AllRecoverIn newest m = EachPair (λ a b. ∥ RecoversIn newest a b m ∥₁)

-- every pair of crash images recovers the one state or the other
abbrev pub AllRecoverEitherIn : (newest : Form) → StateMap → StateMap → Sides → Type 0
AllRecoverEitherIn newest m n = EachPair (λ a b. ∥ RecoversIn newest a b m ⊎ RecoversIn newest a b n ∥₁)

-- every pair of crash images was one at this start
abbrev pub ArePossible : Sides → Sides → Type 0
ArePossible start = EachPair (λ a b. IsCrashImage start.a a × IsCrashImage start.b b)

-- every pair of crash images was one at this start or, both sides being void there, recovers the empty state
abbrev pub ArePossibleOrNewIn : (newest : Form) → (seen_a seen_b : List ℕ) → Sides → Sides → Type 0
ArePossibleOrNewIn newest seen_a seen_b start = EachPair (λ a b. (IsCrashImage start.a a × IsCrashImage start.b b)
    ⊎ (IsVoid seen_a × (IsVoid seen_b × RecoversIn newest a b map.empty)))

-- one side or the other has a byte
abbrev pub HaveBytes : List ℕ → List ℕ → Type 0
HaveBytes a b = (0 < length a) ⊎ (0 < length b)

-- meanwhile at most two calls changed what a crash may leave or, both sides being void, at most eight
abbrev pub AreFewCalls : (seen_a seen_b : List ℕ) → (old new : Moments) → Type 0
AreFewCalls seen_a seen_b old new =
    (new.newest ≤ old.newest + 2) ⊎ (IsVoid seen_a × (IsVoid seen_b × (new.newest ≤ old.newest + 8)))

-- the log of a store that was created: on side A, of the newest form and generation 1, behind the header
pub record IsNewLogIn (newest : Form) (side : Which) (form : Form) (generation end : ℕ) : Type 0 where
  pub on_a : side ≡ A
  pub is_newest : form ≡ newest
  pub first : generation ≡ 1
  pub empty : end ≡ HEADER_BYTES

-- ---- where versions 1 and 2 are read

abbrev pub GivesWay : ℕ → List ℕ → Type 0
GivesWay = GivesWayIn Plain

abbrev pub IsStoredOn : (Which → List ℕ) → Sides → Which → Version → ℕ → ℕ → StateMap → Type 0
IsStoredOn seen sides side v = IsStoredOnIn Plain seen sides side (form_of v)

abbrev pub AllRecover : StateMap → Sides → Type 0
AllRecover = AllRecoverIn Plain

abbrev pub AllRecoverEither : StateMap → StateMap → Sides → Type 0
AllRecoverEither = AllRecoverEitherIn Plain

abbrev pub ArePossibleOrNew : (seen_a seen_b : List ℕ) → Sides → Sides → Type 0
ArePossibleOrNew = ArePossibleOrNewIn Plain

-- of version 2
pub record IsNewLog (side : Which) (v : Version) (generation end : ℕ) : Type 0 where
  pub on_a : side ≡ A
  pub is_two : v ≡ versions.Two
  pub first : generation ≡ 1
  pub empty : end ≡ HEADER_BYTES
