-- What is left on a disk where targets were taken over as other levels know them, read up to the newest form. Own.
use Rattle.std.specs.Prelude.{◌≡◌, ◌⊎◌, ℕ, List}
use Rattle.mk_nodes.specs.declared.graph.Graph.{Graph}
use Rattle.st_disk.specs.declared.which.Which.{Which}
use Rattle.st_disk.specs.declared.which.Which.TheVariants as which
use Rattle.st_disk.specs.Crash.{Sides, EachPair, IsCrashImage}
use Rattle.st_records.specs.declared.version.Form.{Form}
use Rattle.st_records.specs.declared.record.Record.{Record}
use Rattle.st_state.specs.State.{StateMap, replay}
use Rattle.st_recovery.specs.Recovers.{RecoversIn}
use Rattle.st_recovery.specs.Stored.{AllRecoverIn}
use Rattle.dmk_store.specs.Opened.{RecoversAs}
use Rattle.mk_levels.specs.declared.level.Level.{Level}
use Rattle.dmk_levels.specs.Known.{AreKnown}
use Rattle.dmk_taking.specs.declared.storing.Taking.{Taking}
use Rattle.dmk_taking.specs.declared.storing.Taking.TheVariants as takings

module _ (newest : Form) (IsWanted : StateMap → Graph → Type 0) (levels : List Level) where
  -- the pair recovers the state that was with the records of the targets that are taken over into it
  abbrev pub RecoversKnown : (was : StateMap) → (a b : List ℕ) → Type 0
  RecoversKnown was a b = (known : List Record) × AreKnown IsWanted levels was known × RecoversIn newest a b (replay was known)

  -- every pair of crash images recovers the state that was, or that one
  abbrev pub AllRecoverKnown : (was : StateMap) → Sides → Type 0
  AllRecoverKnown was = EachPair (λ a b. ∥ RecoversIn newest a b was ⊎ RecoversKnown was a b ∥₁)

  -- every pair of crash images was one at this start, or recovers the state that the sides recovered, or that one
  abbrev pub ArePossibleOrKnown : (seen : Which → List ℕ) → (start : Sides) → Sides → Type 0
  ArePossibleOrKnown seen start =
      EachPair (λ a b. ∥ (IsCrashImage start.a a × IsCrashImage start.b b) ⊎ (RecoversAs newest seen a b
      ⊎ ((was : StateMap) × RecoversIn newest (seen which.A) (seen which.B) was × RecoversKnown was a b)) ∥₁)

  -- the state that is left of the one that was: the same where nothing could be asked, else with the records that are told
  abbrev pub IsLeft : (was left : StateMap) → Taking → Type 0
  IsLeft was left takings.Unread = left ≡ was
  IsLeft was left (takings.Taken known) = AreKnown IsWanted levels was known.items × (left ≡ replay was known.items)

  -- the state that is left, of what the sides recovered and of what every pair of crash images recovers now
  pub record LeavesState (seen : Which → List ℕ) (sides : Sides) (found : Taking) : Type 0 where
    pub was : StateMap
    pub recovered : RecoversIn newest (seen which.A) (seen which.B) was
    pub left : StateMap
    pub is_left : IsLeft was left found
    pub recovers : AllRecoverIn newest left sides
