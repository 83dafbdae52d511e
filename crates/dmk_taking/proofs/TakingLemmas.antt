-- What an opening leaves behind which targets are taken over.
use Rattle.std.proofs.Common.{◌⊎◌, inl, inr, ℕ, List, Result, Ok, Err, IfOk, OnOk}
use Rattle.std.proofs.Math.Logic.{∥∥₁_map}
use Rattle.mk_nodes.specs.declared.graph.Graph.{Graph}
use Rattle.st_disk.specs.declared.which.Which.{Which}
use Rattle.st_disk.specs.declared.which.Which.TheVariants as which
use Rattle.st_disk.specs.Crash.{Sides, IsCrashImage}
use Rattle.st_disk.specs.Moments.{Moments, Throughout}
use Rattle.st_disk.proofs.MomentLaws.{then_goes, throughout_map}
use Rattle.st_records.specs.declared.record.Record.{Record}
use Rattle.st_records.specs.declared.version.Form.{Form}
use Rattle.st_state.specs.State.{StateMap, replay}
use Rattle.st_recovery.specs.Recovers.{RecoversIn}
use Rattle.st_recovery.specs.Stored.{AllRecoverIn, AllRecoverEitherIn}
use Rattle.dmk_store.specs.Opened.{RecoversAs, ArePossibleOrRecover}
use Rattle.mk_levels.specs.declared.level.Level.{Level}
use Rattle.dmk_levels.specs.Known.{AreKnown}
use Rattle.dmk_store.specs.declared.stop.Stop.{Stop}
use Rattle.dmk_taking.specs.declared.storing.Taking.{Taking}
use Rattle.dmk_taking.specs.Left.{RecoversKnown, AllRecoverKnown, ArePossibleOrKnown, IsLeft, LeavesState}

module _ (newest : Form) (IsWanted : StateMap → Graph → Type 0) (levels : List Level) where
  -- a batch of the records of all that are taken over
  pub batch_known : (m : StateMap) (known : List Record) {m0 m1 : Moments} → AreKnown IsWanted levels m known →
      Throughout m0 m1 (AllRecoverEitherIn newest m (replay m known)) → Throughout m0 m1 (AllRecoverKnown newest IsWanted levels m)
  batch_known m known are batch = throughout_map batch (λ sides has. λ a b is_a is_b. ∥∥₁_map (has a b is_a is_b) (one a b))
    where
      one : (a b : List ℕ) → RecoversIn newest a b m ⊎ RecoversIn newest a b (replay m known) → RecoversIn newest a b m ⊎ RecoversKnown newest IsWanted levels m a b
      one a b (inl before) = inl before
      one a b (inr behind) = inr (known, are, behind)

  -- no call of the device
  pub without_calls : (m : StateMap) {m0 m1 : Moments} → Throughout m0 m1 (AllRecoverIn newest m) → Throughout m0 m1 (AllRecoverKnown newest IsWanted levels m)
  without_calls m same = throughout_map same (λ sides has. λ a b is_a is_b. ∥∥₁_map (has a b is_a is_b) inl)

  module _ (seen : Which → List ℕ) (start : Sides) where
    abbrev MayBe : (a b : List ℕ) → Type 0
    MayBe a b = (IsCrashImage start.a a × IsCrashImage start.b b) ⊎ (RecoversAs newest seen a b
        ⊎ ((was : StateMap) × RecoversIn newest (seen which.A) (seen which.B) was × RecoversKnown newest IsWanted levels was a b))

    opened_or : (a b : List ℕ) → (IsCrashImage start.a a × IsCrashImage start.b b) ⊎ RecoversAs newest seen a b → MayBe a b
    opened_or a b (inl possible) = inl possible
    opened_or a b (inr recovers) = inr (inl recovers)

    known_or : (was : StateMap) → RecoversIn newest (seen which.A) (seen which.B) was → (a b : List ℕ) →
        RecoversIn newest a b was ⊎ RecoversKnown newest IsWanted levels was a b → MayBe a b
    known_or was found a b (inl before) = inr (inl (was, found, before))
    known_or was found a b (inr known) = inr (inr (was, found, known))

    -- an opening alone
    pub only_opened : {m0 m1 : Moments} → Throughout m0 m1 (ArePossibleOrRecover newest seen start) →
        Throughout m0 m1 (ArePossibleOrKnown newest IsWanted levels seen start)
    only_opened opened = throughout_map opened (λ sides has. λ a b is_a is_b. ∥∥₁_map (has a b is_a is_b) (opened_or a b))

    -- and then targets that are taken over
    pub then_known : {m0 m1 m2 : Moments} (was : StateMap) → Throughout m0 m1 (ArePossibleOrRecover newest seen start) → RecoversIn newest (seen which.A) (seen which.B) was →
        Throughout m1 m2 (AllRecoverKnown newest IsWanted levels was) → Throughout m0 m2 (ArePossibleOrKnown newest IsWanted levels seen start)
    then_known was opened found known =
        then_goes (only_opened opened) (throughout_map known (λ sides has. λ a b is_a is_b. ∥∥₁_map (has a b is_a is_b) (known_or was found a b)))

-- what is left of the state that was found
pub leaves : {W L : Type 0} (newest : Form) (honest : Type 0) (reads : W → Type 0) (tells : L → Type 0) (are_read : W → L → Type 0)
    (IsWanted : W → L → StateMap → Graph → Type 0) (levels : List Level) (seen : Which → List ℕ) (sides : Sides)
    (got : Result Taking Stop) (was left : StateMap) → (honest → RecoversIn newest (seen which.A) (seen which.B) was) →
    IfOk got (λ found. (w : W) (l : L) → reads w → tells l → are_read w l → IsLeft newest (IsWanted w l) levels was left found) →
    (honest → OnOk got (AllRecoverIn newest left sides)) →
    IfOk got (λ found. honest → (w : W) (l : L) → reads w → tells l → are_read w l → LeavesState newest (IsWanted w l) levels seen sides found)
leaves newest honest reads tells are_read IsWanted levels seen sides (Ok found) was left recovered is all = λ keeps w l r t rd. record {
  was = was;
  recovered = recovered keeps;
  left = left;
  is_left = is w l r t rd;
  recovers = all keeps;
}
leaves newest honest reads tells are_read IsWanted levels seen sides (Err stop) was left recovered is all = tt
