-- What an opening and a compaction after it leave, and how their refusals are told.
use Rattle.std.proofs.Common.{◌≡◌, ◌⊎◌, ℕ, List, refl, sym, subst, inl, inr}
use Rattle.std.specs.Coded.{Coded-set}
use Rattle.std.proofs.Math.Logic.{∥∥₁_elim, ∥∥₁_map}
use Rattle.std.specs.FinMap as map
use Rattle.st_disk.specs.declared.which.Which.{Which}
use Rattle.st_disk.specs.declared.which.Which.TheVariants as which
use Rattle.st_disk.specs.Crash.{Sides, IsCrashImage, writes_of}
use Rattle.st_disk.specs.Moments.{Moments, Throughout}
use Rattle.st_disk.proofs.MomentLaws.{then_goes, throughout_map}
use Rattle.st_state.specs.State.{StateMap, state_code}
use Rattle.st_file.specs.Side.{IsVoid}
use Rattle.st_records.specs.declared.version.Form.{Form}
use Rattle.st_recovery.specs.Recovers.{RecoversIn, recovered}
use Rattle.st_recovery.proofs.RecoversLemmas.{one_recovery_in}
use Rattle.st_recovery.specs.Stored.{AllRecoverIn, ArePossibleOrNewIn}
use Rattle.bd_flusher.specs.declared.fault.FlushFault.{FlushFault}
use Rattle.bd_flusher.specs.declared.fault.FlushFault.TheVariants as refusals
use Rattle.jb_closing.specs.declared.fault.RunFault.{RunFault}
use Rattle.jb_closing.specs.declared.fault.RunFault.TheVariants as run_faults
use Rattle.dmk_store.specs.Opened.{RecoversAs, RecoversAsBefore, ArePossibleOrRecover, IsNotCompacted, TellsNotCompacted}

-- ---- what a power cut may leave

possible_or_as : (newest : Form) (seen : Which → List ℕ) (start : Sides) (a b : List ℕ) → (IsCrashImage start.a a × IsCrashImage start.b b) ⊎ (IsVoid (seen which.A) × (IsVoid (seen which.B) × RecoversIn newest a b map.empty))
    → (IsCrashImage start.a a × IsCrashImage start.b b) ⊎ RecoversAs newest seen a b
possible_or_as newest seen start a b (inl possible) = inl possible
possible_or_as newest seen start a b (inr (void_a, (void_b, recovers))) = inr (map.empty, inl (void_a, void_b, refl), recovers)

-- an opening
pub opened_so : (newest : Form) (seen : Which → List ℕ) (start : Sides) {m0 m1 : Moments} → Throughout m0 m1 (ArePossibleOrNewIn newest (seen which.A) (seen which.B) start) → Throughout m0 m1 (ArePossibleOrRecover newest seen start)
opened_so newest seen start opened =
    throughout_map opened (λ sides has. λ a b is_a is_b. ∣ possible_or_as newest seen start a b (has a b is_a is_b) ∣₁)

-- and then a compaction of the state that was found
pub then_compacted : (newest : Form) (seen : Which → List ℕ) (start : Sides) {m0 m1 m2 : Moments} (m : StateMap) → Throughout m0 m1 (ArePossibleOrNewIn newest (seen which.A) (seen which.B) start) → RecoversIn newest (seen which.A) (seen which.B) m
    → Throughout m1 m2 (AllRecoverIn newest m) → Throughout m0 m2 (ArePossibleOrRecover newest seen start)
then_compacted newest seen start m opened found compacted =
    then_goes (opened_so newest seen start opened) (throughout_map compacted (λ sides has. λ a b is_a is_b. ∥∥₁_map (has a b is_a is_b) (λ r. inr (m, found, r))))

-- two states that both sides recover are one
pub same_state : (m n : StateMap) → recovered m ≡ recovered n → m ≡ n
same_state m n e = cc

-- a disk of which each pair recovers the state that was recovered before recovers no other one
pub opened_as_before : (newest : Form) (disk_honest : Type 0) (before now : Which → List ℕ) (sides : Sides) (state : StateMap) →
    (disk_honest → RecoversIn newest (before which.A) (before which.B) state) → (disk_honest → AllRecoverIn newest state sides) →
    (disk_honest → (side : Which) → IsCrashImage (writes_of side sides) (now side)) → RecoversAsBefore newest disk_honest before now
opened_as_before newest disk_honest before now sides state found all image = λ honest m is.
    let same : m ≡ state = ∥∥₁_elim (all honest (now which.A) (now which.B) (image honest which.A) (image honest which.B)) (Coded-set state_code m state)
    (λ own. same_state m state (one_recovery_in newest (now which.A) (now which.B) (recovered m) (recovered state) is own)) in
    subst (RecoversIn newest (before which.A) (before which.B)) (sym same) (found honest)

-- ---- refusals

not_compacted : {P Q : Type 0} (fault : FlushFault) → (P → Q) → IsNotCompacted P fault → IsNotCompacted Q fault
not_compacted refusals.Device implies why = tt
not_compacted refusals.OutOfMemory implies why = implies why
not_compacted refusals.Full implies why = implies why
not_compacted refusals.OldVersion implies why = implies why
not_compacted refusals.Dead implies why = absurd why
not_compacted (refusals.OutOfTurn ticket turn) implies why = absurd why
not_compacted (refusals.Unknown ticket) implies why = absurd why

-- what is so of the side that has to change, in other words
pub told_not_compacted : {P Q : Type 0} (fault : RunFault) → (P → Q) → TellsNotCompacted P fault → TellsNotCompacted Q fault
told_not_compacted (run_faults.Flush fault) implies why = not_compacted fault implies why
told_not_compacted run_faults.OutOfMemory implies why = absurd why
told_not_compacted run_faults.Start implies why = absurd why
