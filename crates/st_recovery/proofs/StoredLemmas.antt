-- What a store's commits and its opening leave on both sides.
use Rattle.std.proofs.Common.{◌≡◌, ◌⊎◌, ℕ, ◌+◌, Bool, false, Result, Ok, Err, OnOk, List, [], ◌∷◌, ◌++◌, length, take, refl, sym, ap, subst, ◌∙◌, inl, inr}
use Rattle.std.proofs.Props.{props}
use Rattle.std.proofs.Math.Logic.{∥∥₁_elim, ∥∥₁_map}
use Rattle.std.specs.FinMap as map
use Rattle.st_disk.specs.declared.which.Which.{Which}
use Rattle.st_disk.specs.declared.which.Which.TheVariants as which
use Rattle.st_disk.specs.Crash.{UnsyncedWrites, IsCrashImage, settled, Sides, writes_of, with_writes, other, EachPair, SideHas}
use Rattle.st_disk.specs.Moments.{Moments, now, Throughout, MayPass, after_sync}
use Rattle.st_disk.proofs.CrashLaws.{only_image, pair_has_a, pair_has_b}
use Rattle.st_disk.proofs.MomentLaws.{started, goes_on, then_goes, at_end, throughout_map, Throughout-prop}
use Rattle.st_disk.proofs.DeviceCalls.{settled_seen}
use Rattle.st_records.specs.declared.version.Form.{Form}
use Rattle.st_records.specs.declared.record.Record.{Record}
use Rattle.st_state.specs.State.{StateMap, replay}
use Rattle.st_file.specs.Batch.{framed_in, FillBatchIn}
use Rattle.st_file.specs.Layout.{IsReadIn}
use Rattle.st_file.specs.Side.{IsVoid, HoldsUpToIn}
use Rattle.st_file.specs.Gated.{IsReady, IsClosedOrOpen, IsOpened}
use Rattle.st_file.specs.Grown.{HoldsInForm, HoldsWithOrWithoutIn}
use Rattle.st_file.specs.Created.{IsVoidOrNewIn, IsCreatedIn}
use Rattle.st_file.specs.declared.layout.TheConstants.{HEADER_BYTES}
use Rattle.st_file.proofs.LayoutLemmas.{itself_is_read}
use Rattle.st_file.proofs.LogLemmas.{ready_to_grow}
use Rattle.st_file.proofs.CommitLemmas.{grown_by, grown}
use Rattle.st_recovery.specs.Recovers.{WinsIn, IsChosenIn, RecoversIn}
use Rattle.st_recovery.specs.Stored.{GivesWayIn, IsStoredIn, IsStoredOnIn, AllRecoverIn, AllRecoverEitherIn, ArePossible, ArePossibleOrNewIn}

-- taking in one list of records and then another
pub replay-append : (m : StateMap) (rs ss : List Record) → replay m (rs ++ ss) ≡ replay (replay m rs) ss
replay-append m [] ss = refl
replay-append m (r ∷ rs) ss = replay-append (replay m (r ∷ [])) rs ss

-- ---- one side that counts

-- a side that is on the disk holds what was synced
pub settled_by : {writes : UnsyncedWrites} {bytes : List ℕ} → writes ≡ settled bytes → writes ≡ settled writes.synced
settled_by on_disk = on_disk ∙ ap settled (sym (ap (λ (w : UnsyncedWrites). w.synced) on_disk))

-- a side that holds records wins over one that gives way
wins : {newest : Form} (x y : List ℕ) (form : Form) (generation : ℕ) (held : List Record) (m : StateMap) → IsReadIn newest form → HoldsInForm x form generation held → GivesWayIn newest generation y → m ≡ replay map.empty held → WinsIn newest x y m
wins x y form generation held m is_read holds over is =
    record { form = form; generation = generation; end = holds.0; counts = record { is_read = is_read; held = held; holds = holds.1; over = over; state_is = is } }

wins_either : {newest : Form} (x y : List ℕ) (form : Form) (generation : ℕ) (held batch : List Record) (m : StateMap) → IsReadIn newest form → HoldsWithOrWithoutIn form generation held batch x → GivesWayIn newest generation y → m ≡ replay map.empty held → WinsIn newest x y m ⊎ WinsIn newest x y (replay m batch)
wins_either x y form generation held batch m is_read (inl holds) over is = inl (wins x y form generation held m is_read holds over is)
wins_either x y form generation held batch m is_read (inr holds) over is =
    inr (wins x y form generation (held ++ batch) (replay m batch) is_read holds over (ap (λ (n : StateMap). replay n batch) is ∙ sym (replay-append map.empty held batch)))

by_a : {newest : Form} (a b : List ℕ) (m n : StateMap) → WinsIn newest a b m ⊎ WinsIn newest a b n → RecoversIn newest a b m ⊎ RecoversIn newest a b n
by_a a b m n (inl w) = inl (inr (inl w))
by_a a b m n (inr w) = inr (inr (inl w))

by_b : {newest : Form} (a b : List ℕ) (m n : StateMap) → WinsIn newest b a m ⊎ WinsIn newest b a n → RecoversIn newest a b m ⊎ RecoversIn newest a b n
by_b a b m n (inl w) = inl (inr (inr w))
by_b a b m n (inr w) = inr (inr (inr w))

-- so each pair recovers the state before or the state after
pub pairs_either : {newest : Form} (side : Which) {away : UnsyncedWrites} (form : Form) → IsReadIn newest form → (generation : ℕ) (held batch : List Record) (m : StateMap) (sides : Sides) → SideHas side away (HoldsWithOrWithoutIn form generation held batch) sides
    → ((x : List ℕ) → IsCrashImage away x → GivesWayIn newest generation x) → m ≡ replay map.empty held → AllRecoverEitherIn newest m (replay m batch) sides
pairs_either which.A {away} form is_read generation held batch m sides has over is = λ a b is_a is_b.
    let both = pair_has_a sides has over a b is_a is_b in
    ∣ by_a a b m (replay m batch) (wins_either a b form generation held batch m is_read both.0 both.1 is) ∣₁
pairs_either which.B {away} form is_read generation held batch m sides has over is = λ a b is_a is_b.
    let both = pair_has_b sides has over a b is_a is_b in
    ∣ by_b a b m (replay m batch) (wins_either b a form generation held batch m is_read both.1 both.0 is) ∣₁

-- and of a store that is on the disk each pair recovers its state
pub pairs_stored : (side : Which) {newest : Form} {seen : List ℕ} {form : Form} {generation end : ℕ} {m : StateMap} (sides : Sides) → IsStoredIn newest seen (writes_of side sides) (writes_of (other side) sides) form generation end m → AllRecoverIn newest m sides
pairs_stored which.A {newest} {seen} {form} {generation} {end} {m} sides stored = λ a b is_a is_b.
    let holds : HoldsUpToIn a form generation stored.held end = subst (λ (x : List ℕ). HoldsUpToIn x form generation stored.held end) (sym (settled_seen stored.on_disk is_a)) stored.holds in
    ∣ inr (inl (wins a b form generation stored.held m stored.is_read (end, holds) (stored.over b is_b) stored.state_is)) ∣₁
pairs_stored which.B {newest} {seen} {form} {generation} {end} {m} sides stored = λ a b is_a is_b.
    let holds : HoldsUpToIn b form generation stored.held end = subst (λ (x : List ℕ). HoldsUpToIn x form generation stored.held end) (sym (settled_seen stored.on_disk is_b)) stored.holds in
    ∣ inr (inr (wins b a form generation stored.held m stored.is_read (end, holds) (stored.over a is_a) stored.state_is)) ∣₁

-- both statements have one proof at most
pub AllRecover-prop : (newest : Form) (m : StateMap) (sides : Sides) → IsProp (AllRecoverIn newest m sides)
AllRecover-prop newest m sides = hlevel props

pub AllRecoverEither-prop : (newest : Form) (m n : StateMap) (sides : Sides) → IsProp (AllRecoverEitherIn newest m n sides)
AllRecoverEither-prop newest m n sides = hlevel props

pub all_recover : (side : Which) {newest : Form} {seen : List ℕ} {form : Form} {generation end : ℕ} {m : StateMap} (sides : Sides) → ∥ IsStoredIn newest seen (writes_of side sides) (writes_of (other side) sides) form generation end m ∥₁ → AllRecoverIn newest m sides
all_recover side {newest} {m = m} sides stored = ∥∥₁_elim stored (AllRecover-prop newest m sides) (λ st. pairs_stored side sides st)

-- the same fact, its forms known to be others
pub stored_along : (seen : Which → List ℕ) (sides : Sides) (side : Which) (newest newest1 form form1 : Form) (generation end : ℕ) (m : StateMap) → newest1 ≡ newest → form1 ≡ form → IsStoredOnIn newest seen sides side form generation end m
    → IsStoredOnIn newest1 seen sides side form1 generation end m
stored_along seen sides side newest newest1 form form1 generation end m newests forms stored =
    let first = subst (λ (f : Form). IsStoredOnIn newest seen sides side f generation end m) (sym forms) stored in
    subst (λ (f : Form). IsStoredOnIn f seen sides side form1 generation end m) (sym newests) first

-- ---- commit

-- the text of a batch put behind a store's closed gate
pub commits : {newest : Form} {side : Which} {s text : List ℕ} {form written : Form} {generation end : ℕ} {m : StateMap} {rs : List Record} {m0 m1 : Moments}
    → ∥ IsStoredIn newest s (writes_of side (now m0)) (writes_of (other side) (now m0)) form generation end m ∥₁ → form ≡ written → FillBatchIn written false rs → text ≡ framed_in written rs ++ 0 ∷ []
    → Throughout m0 m1 (SideHas side (writes_of (other side) (now m0)) (IsClosedOrOpen (take end s) text)) → Throughout m0 m1 (AllRecoverEitherIn newest m (replay m rs))
commits {newest} {side} {s} {text} {form} {written} {generation} {end} {m} {rs} stored same fills is gated =
    ∥∥₁_elim stored (Throughout-prop (AllRecoverEither-prop newest m (replay m rs))) (λ st.
    throughout_map (grown_by st.holds same fills is gated) (λ sides has. pairs_either side form st.is_read generation st.held rs m sides has st.over st.state_is))

-- nothing was called
pub uncommitted : (side : Which) {newest : Form} {s : List ℕ} {form : Form} {generation end : ℕ} {m : StateMap} (n : StateMap) (m0 : Moments) → ∥ IsStoredIn newest s (writes_of side (now m0)) (writes_of (other side) (now m0)) form generation end m ∥₁ → Throughout m0 m0 (AllRecoverEitherIn newest m n)
uncommitted side {m = m} n m0 stored =
    started m0 (λ a b is_a is_b. ∥∥₁_map (all_recover side (now m0) stored a b is_a is_b) (λ r. inl r))

-- after the batch the store holds it too
stored_again : {newest : Form} (side : Which) (m0 m1 : Moments) {s seen text : List ℕ} {form written : Form} {generation end later : ℕ} {m n : StateMap} {rs : List Record}
    → ∥ IsStoredIn newest s (writes_of side (now m0)) (writes_of (other side) (now m0)) form generation end m ∥₁ → form ≡ written → FillBatchIn written false rs → text ≡ framed_in written rs ++ 0 ∷ [] → IsOpened (take end s) text seen (writes_of side (now m1))
    → writes_of (other side) (now m1) ≡ writes_of (other side) (now m0) → later ≡ end + length text → n ≡ replay m rs → ∥ IsStoredIn newest seen (writes_of side (now m1)) (writes_of (other side) (now m1)) form generation later n ∥₁
stored_again side m0 m1 {s} {seen} {text} {form} {written} {generation} {end} {later} {m} {n} {rs} stored same fills is opened away place state_is =
    ∥∥₁_map stored (λ st. record {
      on_disk = opened.on_disk;
      is_read = st.is_read;
      held = st.held ++ rs;
      holds = grown st.holds same fills is opened place;
      state_is = state_is ∙ ap (λ (k : StateMap). replay k rs) st.state_is ∙ sym (replay-append map.empty st.held rs);
      away_on_disk = subst (λ (w : UnsyncedWrites). w ≡ settled w.synced) (sym away) st.away_on_disk;
      over = λ x image. st.over x (subst (λ (w : UnsyncedWrites). IsCrashImage w x) away image);
    })

-- also where the log's side, version and generation are only known to be those before
pub stored_after : {newest : Form} {side side1 : Which} (seen : Which → List ℕ) (m0 m1 : Moments) {s text : List ℕ} {form form1 written : Form} {generation generation1 end later : ℕ} {m n : StateMap} {rs : List Record}
    → ∥ IsStoredIn newest s (writes_of side (now m0)) (writes_of (other side) (now m0)) form generation end m ∥₁ → form ≡ written → FillBatchIn written false rs → text ≡ framed_in written rs ++ 0 ∷ [] → IsOpened (take end s) text (seen side) (writes_of side (now m1))
    → writes_of (other side) (now m1) ≡ writes_of (other side) (now m0) → later ≡ end + length text → n ≡ replay m rs → side1 ≡ side → form1 ≡ form → generation1 ≡ generation
    → ∥ IsStoredIn newest (seen side1) (writes_of side1 (now m1)) (writes_of (other side1) (now m1)) form1 generation1 later n ∥₁
stored_after {newest} {side} {side1} seen m0 m1 {s} {text} {form} {form1} {written} {generation} {generation1} {end} {later} {m} {n} {rs} stored same fills is opened away place state_is same_side same_form same_generation =
    let base : ∥ IsStoredIn newest (seen side) (writes_of side (now m1)) (writes_of (other side) (now m1)) form generation later n ∥₁ = stored_again side m0 m1 stored same fills is opened away place state_is in
    let by_generation = subst (λ (k : ℕ). ∥ IsStoredIn newest (seen side) (writes_of side (now m1)) (writes_of (other side) (now m1)) form k later n ∥₁) (sym same_generation) base in
    let by_form = subst (λ (f : Form). ∥ IsStoredIn newest (seen side) (writes_of side (now m1)) (writes_of (other side) (now m1)) f generation1 later n ∥₁) (sym same_form) by_generation in
    subst (λ (w : Which). ∥ IsStoredIn newest (seen w) (writes_of w (now m1)) (writes_of (other w) (now m1)) form1 generation1 later n ∥₁) (sym same_side) by_form

-- what a call leaves of a store that isn't dead
pub done_so : {newest : Form} {T E : Type 0} (result : Result T E) (A : Type 0) (side : Which) (sides : Sides) {dead : Bool} {seen : List ℕ} {form : Form} {generation end : ℕ} {m : StateMap} → OnOk result (A × (dead ≡ false))
    → (dead ≡ false → ∥ IsStoredIn newest seen (writes_of side sides) (writes_of (other side) sides) form generation end m ∥₁) → OnOk result (AllRecoverIn newest m sides)
done_so (Ok x) A side sides alive stored = all_recover side sides (stored alive.1)
done_so (Err e) A side sides alive stored = tt

-- ---- open

pub possible_first : (sides : Sides) → ArePossible sides sides
possible_first sides = λ a b is_a is_b. (is_a, is_b)

-- a sync leaves what was possible
pub possible_synced : (side : Which) (start sides : Sides) (seen : List ℕ) → ArePossible start sides → IsCrashImage (writes_of side sides) seen → ArePossible start (with_writes side (settled seen) sides)
possible_synced which.A start sides seen has image = λ a b is_a is_b. has a b (subst (λ (x : List ℕ). IsCrashImage sides.a x) (sym (only_image is_a)) image) is_b
possible_synced which.B start sides seen has image = λ a b is_a is_b. has a b is_a (subst (λ (x : List ℕ). IsCrashImage sides.b x) (sym (only_image is_b)) image)

-- a sync more, whatever it answered
pub synced_one : (side : Which) (start : Sides) {m0 m1 m2 : Moments} {seen : List ℕ} → Throughout m0 m1 (ArePossible start) → MayPass (after_sync side seen m1) m1 m2 → IsCrashImage (writes_of side (now m1)) seen → Throughout m0 m2 (ArePossible start)
synced_one side start {m0} {m1} {m2} {seen} so_far may image = goes_on so_far may (possible_synced side start (now m1) seen (at_end so_far) image)

-- a run of calls of which the last one left no moment
pub throughout_same : {P : Sides → Type 0} {m0 m1 m2 : Moments} → m2 ≡ m1 → Throughout m0 m1 P → Throughout m0 m2 P
throughout_same {P} {m0} same so_far = subst (λ (m : Moments). Throughout m0 m P) (sym same) so_far

-- the side that was chosen, both sides being on the disk
pub stored_of : {newest : Form} (seen : Which → List ℕ) (side : Which) (form : Form) (generation end : ℕ) (m : StateMap) (sides : Sides) → IsChosenIn newest (seen which.A) (seen which.B) side form generation end m
    → writes_of which.A sides ≡ settled (seen which.A) → writes_of which.B sides ≡ settled (seen which.B) → IsStoredIn newest (seen side) (writes_of side sides) (writes_of (other side) sides) form generation end m
stored_of {newest} seen which.A form generation end m sides chosen on_a on_b = record {
  on_disk = on_a;
  is_read = chosen.is_read;
  held = chosen.held;
  holds = chosen.holds;
  state_is = chosen.state_is;
  away_on_disk = settled_by on_b;
  over = λ x image. subst (GivesWayIn newest generation) (sym (settled_seen on_b image)) chosen.over;
}
stored_of {newest} seen which.B form generation end m sides chosen on_a on_b = record {
  on_disk = on_b;
  is_read = chosen.is_read;
  held = chosen.held;
  holds = chosen.holds;
  state_is = chosen.state_is;
  away_on_disk = settled_by on_a;
  over = λ x image. subst (GivesWayIn newest generation) (sym (settled_seen on_a image)) chosen.over;
}

-- side A was created, side B being void and on the disk
pub stored_new : {newest : Form} {seen seen_b : List ℕ} {generation : ℕ} {m : StateMap} (sides : Sides) → IsCreatedIn newest generation seen sides.a → sides.b ≡ settled seen_b → IsVoid seen_b → m ≡ map.empty → IsStoredIn newest seen sides.a sides.b newest generation HEADER_BYTES m
stored_new {newest} {seen} {seen_b} {generation} sides created on_b void is_empty = record {
  on_disk = created.on_disk;
  is_read = itself_is_read newest;
  held = [];
  holds = created.fresh;
  state_is = is_empty;
  away_on_disk = settled_by on_b;
  over = λ x image. inl (subst IsVoid (sym (settled_seen on_b image)) void);
}

-- while it is created each pair recovers the empty state
pub new_pairs : {newest : Form} {seen_b : List ℕ} {away : UnsyncedWrites} {generation : ℕ} (sides : Sides) → SideHas which.A away (IsVoidOrNewIn newest generation) sides → away ≡ settled seen_b → IsVoid seen_b → EachPair (λ a b. RecoversIn newest a b map.empty) sides
new_pairs {newest} {seen_b} {away} {generation} sides has on_b void = λ a b is_a is_b.
    let both = pair_has_a {Q = IsVoid} sides has (λ x image. subst IsVoid (sym (settled_seen on_b image)) void) a b is_a is_b in
    by_first a b both.0 both.1
  where
    by_first : (a b : List ℕ) → IsVoidOrNewIn newest generation a → IsVoid b → RecoversIn newest a b map.empty
    by_first a b (inl none) other_none = inl (none, other_none, refl)
    by_first a b (inr fresh) other_none = inr (inl (wins a b newest generation [] map.empty (itself_is_read newest) (HEADER_BYTES, fresh) (inl other_none) refl))

-- a side that was chosen or created is ready for a batch
pub ready_of : (newest : Form) (seen : Which → List ℕ) (side : Which) (form : Form) (generation end : ℕ) (m : StateMap) (sides : Sides) → IsChosenIn newest (seen which.A) (seen which.B) side form generation end m
    → writes_of which.A sides ≡ settled (seen which.A) → writes_of which.B sides ≡ settled (seen which.B) → IsReady (seen side) (writes_of side sides) end
ready_of newest seen side form generation end m sides chosen on_a on_b =
    let st = stored_of seen side form generation end m sides chosen on_a on_b in
    ready_to_grow (seen side) (writes_of side sides) form generation end st.held st.holds st.on_disk

pub ready_new : {form : Form} {generation : ℕ} {seen : List ℕ} {writes : UnsyncedWrites} → IsCreatedIn form generation seen writes → IsReady seen writes HEADER_BYTES
ready_new {form} {generation} {seen} {writes} created = ready_to_grow seen writes form generation HEADER_BYTES [] created.fresh created.on_disk

-- the moments of an opening
pub creating : {newest : Form} {seen_b : List ℕ} {away : UnsyncedWrites} {generation : ℕ} {m1 m2 : Moments} → Throughout m1 m2 (SideHas which.A away (IsVoidOrNewIn newest generation)) → away ≡ settled seen_b → IsVoid seen_b → Throughout m1 m2 (EachPair (λ a b. RecoversIn newest a b map.empty))
creating so_far on_b void = throughout_map so_far (λ sides has. new_pairs sides has on_b void)

pub possible_or_new : {newest : Form} (seen_a seen_b : List ℕ) (start : Sides) {m0 m1 : Moments} → Throughout m0 m1 (ArePossible start) → Throughout m0 m1 (ArePossibleOrNewIn newest seen_a seen_b start)
possible_or_new seen_a seen_b start so_far = throughout_map so_far (λ sides has. λ a b is_a is_b. inl (has a b is_a is_b))

pub then_created : {newest : Form} (seen_a seen_b : List ℕ) (start : Sides) {m0 m1 m2 : Moments} → Throughout m0 m1 (ArePossible start) → IsVoid seen_a → IsVoid seen_b → Throughout m1 m2 (EachPair (λ a b. RecoversIn newest a b map.empty)) → Throughout m0 m2 (ArePossibleOrNewIn newest seen_a seen_b start)
then_created seen_a seen_b start so_far void_a void_b more =
    then_goes (possible_or_new seen_a seen_b start so_far) (throughout_map more (λ sides has. λ a b is_a is_b. inr (void_a, (void_b, has a b is_a is_b))))
