-- What an opening leaves behind which targets are taken as they are.
use Rattle.std.proofs.Common.{◌≡◌, ◌≢◌, ◌<◌, ◌⊎◌, inl, inr, ℕ, List, [], Option, length, refl, subst, arith, ◌∙◌, ap, Result, Ok, Err, IfOk, OnOk}
use Rattle.std.proofs.Math.Logic.{∥∥₁_map}
use Rattle.std.specs.FinMap as map
use Rattle.bd_lists.specs.declared.recipe.Variable.{Variable}
use Rattle.dmk_reading.specs.Planned.{IsGraphOf, IsWholeGraphOf}
use Rattle.mk_profile.specs.declared.profile.Profile.{Profile}
use Rattle.mk_reader.specs.declared.item.Item.{Item}
use Rattle.mk_nodes.specs.declared.graph.Graph.{Graph}
use Rattle.st_disk.specs.declared.which.Which.{Which}
use Rattle.st_disk.specs.declared.which.Which.TheVariants as which
use Rattle.st_disk.specs.Crash.{Sides, IsCrashImage}
use Rattle.st_disk.specs.Moments.{Moments, Throughout}
use Rattle.st_disk.proofs.MomentLaws.{then_goes, throughout_map}
use Rattle.st_records.specs.declared.record.Record.{Record}
use Rattle.st_state.specs.State.{StateMap, replay}
use Rattle.st_records.specs.declared.version.Form.{Form}
use Rattle.st_recovery.specs.Recovers.{RecoversIn}
use Rattle.st_recovery.specs.Stored.{AllRecoverIn, AllRecoverEitherIn}
use Rattle.dmk_store.specs.Opened.{RecoversAs, ArePossibleOrRecover}
use Rattle.dmk_trust.specs.Taken.{AreTaken}
use Rattle.dmk_trust.specs.Trusted.{AllRecoverTaken, IsOfTaken, IsLeft, LeavesState, RecoversTaken, AllRecoverOrTaken, ArePossibleOrTaken}
use Rattle.dmk_store.specs.declared.stop.Stop.{Stop}
use Rattle.dmk_printing.specs.declared.trusted.Trusted.{Trusted}
use Rattle.mk_nodes.specs.declared.file_look.FileLook.{FileLook}

-- a graph in which each name has a file or is made
pub as_whole : {profile : Profile} {definitions environment : List Variable} {targets : List (List ℕ)} {looks : List ℕ → Option FileLook} {items : List Item}
    {state : StateMap} {graph : Graph} → IsGraphOf profile definitions environment targets looks items state graph → graph.unmade.items ≡ [] →
    IsWholeGraphOf profile definitions environment targets looks items state graph
as_whole is made = record { is_graph = is; all_made = made }

-- a batch of the records of all that are taken
pub batch_taken : (newest : Form) (graph : Graph) (m : StateMap) (taken : List Record) {m0 m1 : Moments} → AreTaken newest graph taken →
    Throughout m0 m1 (AllRecoverEitherIn newest m (replay m taken)) → Throughout m0 m1 (AllRecoverTaken newest graph m)
batch_taken newest graph m taken are batch = throughout_map batch (λ sides has. λ a b is_a is_b. ∥∥₁_map (has a b is_a is_b) (one a b))
  where
    one : (a b : List ℕ) → RecoversIn newest a b m ⊎ RecoversIn newest a b (replay m taken) → RecoversIn newest a b m ⊎ ((steps : List Record) × AreTaken newest graph steps × RecoversIn newest a b (replay m steps))
    one a b (inl before) = inl before
    one a b (inr behind) = inr (taken, are, behind)

-- no call of the device
pub none_taken : (newest : Form) (graph : Graph) (m : StateMap) {m0 m1 : Moments} → Throughout m0 m1 (AllRecoverIn newest m) → Throughout m0 m1 (AllRecoverTaken newest graph m)
none_taken newest graph m same = throughout_map same (λ sides has. λ a b is_a is_b. ∥∥₁_map (has a b is_a is_b) inl)

-- nothing is known in a state without names
pub nothing_known : (m : StateMap) → map.len m ≡ 0 → m ≡ map.empty
nothing_known m none = map.empty_of_len m none

pub something_known : (m : StateMap) → 0 < map.len m → m ≢ map.empty
something_known m some = λ none.
    let same : map.len m ≡ 0 = ap map.len none ∙ map.len-empty _ _ in
    absurd (omega (arith, some, same))

-- what is left of the state that was found
pub leaves : {Times : Type 0} (newest : Form) (honest : Type 0) (allows : Times → Type 0) (IsWanted : Times → Graph → Type 0) (seen : Which → List ℕ) (sides : Sides)
    (got : Result Trusted Stop) (was left : StateMap) → (honest → RecoversIn newest (seen which.A) (seen which.B) was) →
    IfOk got (λ found. (looks : Times) → allows looks → IsLeft newest (IsWanted looks) was left found) → (honest → OnOk got (AllRecoverIn newest left sides)) →
    IfOk got (λ found. honest → (looks : Times) → allows looks → LeavesState newest (IsWanted looks) seen sides found)
leaves newest honest allows IsWanted seen sides (Ok found) was left recovered is all = λ keeps looks may. record {
  was = was;
  recovered = recovered keeps;
  left = left;
  is_left = is looks may;
  recovers = all keeps;
}
leaves newest honest allows IsWanted seen sides (Err stop) was left recovered is all = tt

module _ (newest : Form) (IsWanted : Graph → Type 0) where
  pub of_taken : (graph : Graph) (was left : StateMap) (taken : List Record) (count : ℕ) → was ≡ map.empty → IsWanted graph →
      AreTaken newest graph taken → left ≡ replay was taken → length taken ≡ count → IsOfTaken newest IsWanted left count
  of_taken graph was left taken count none wanted are left_is counted = record {
    graph = graph;
    is_wanted = wanted;
    taken = taken;
    are_taken = are;
    is_left = subst (λ m. left ≡ replay m taken) none left_is;
    counted = counted;
  }

  pub over_graph : (graph : Graph) (was : StateMap) {m0 m1 : Moments} → was ≡ map.empty → IsWanted graph →
      Throughout m0 m1 (AllRecoverTaken newest graph was) → Throughout m0 m1 (AllRecoverOrTaken newest IsWanted was)
  over_graph graph was none wanted trusted = throughout_map trusted (λ sides has. λ a b is_a is_b. ∥∥₁_map (has a b is_a is_b) (one a b))
    where
      one : (a b : List ℕ) → RecoversIn newest a b was ⊎ ((steps : List Record) × AreTaken newest graph steps × RecoversIn newest a b (replay was steps)) →
          RecoversIn newest a b was ⊎ RecoversTaken newest IsWanted was a b
      one a b (inl before) = inl before
      one a b (inr (steps, are, behind)) =
          inr (none, replay was steps, length steps, of_taken graph was (replay was steps) steps (length steps) none wanted are refl refl, behind)

  pub without_calls : (was : StateMap) {m0 m1 : Moments} → Throughout m0 m1 (AllRecoverIn newest was) → Throughout m0 m1 (AllRecoverOrTaken newest IsWanted was)
  without_calls was same = throughout_map same (λ sides has. λ a b is_a is_b. ∥∥₁_map (has a b is_a is_b) inl)

  module _ (seen : Which → List ℕ) (start : Sides) where
    abbrev MayBe : (a b : List ℕ) → Type 0
    MayBe a b = (IsCrashImage start.a a × IsCrashImage start.b b) ⊎ (RecoversAs newest seen a b
        ⊎ ((was : StateMap) × RecoversIn newest (seen which.A) (seen which.B) was × RecoversTaken newest IsWanted was a b))

    opened_or : (a b : List ℕ) → (IsCrashImage start.a a × IsCrashImage start.b b) ⊎ RecoversAs newest seen a b → MayBe a b
    opened_or a b (inl possible) = inl possible
    opened_or a b (inr recovers) = inr (inl recovers)

    trusted_or : (was : StateMap) → RecoversIn newest (seen which.A) (seen which.B) was → (a b : List ℕ) →
        RecoversIn newest a b was ⊎ RecoversTaken newest IsWanted was a b → MayBe a b
    trusted_or was found a b (inl before) = inr (inl (was, found, before))
    trusted_or was found a b (inr taken) = inr (inr (was, found, taken))

    -- an opening alone
    pub only_opened : {m0 m1 : Moments} → Throughout m0 m1 (ArePossibleOrRecover newest seen start) →
        Throughout m0 m1 (ArePossibleOrTaken newest IsWanted seen start)
    only_opened opened = throughout_map opened (λ sides has. λ a b is_a is_b. ∥∥₁_map (has a b is_a is_b) (opened_or a b))

    -- and then targets that are taken
    pub then_trusted : {m0 m1 m2 : Moments} (was : StateMap) → Throughout m0 m1 (ArePossibleOrRecover newest seen start) → RecoversIn newest (seen which.A) (seen which.B) was →
        Throughout m1 m2 (AllRecoverOrTaken newest IsWanted was) → Throughout m0 m2 (ArePossibleOrTaken newest IsWanted seen start)
    then_trusted was opened found trusted =
        then_goes (only_opened opened) (throughout_map trusted (λ sides has. λ a b is_a is_b. ∥∥₁_map (has a b is_a is_b) (trusted_or was found a b)))
