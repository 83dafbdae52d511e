-- What a side holds with a state written anew, and what each pair recovers until it counts.
use Rattle.std.proofs.Common.{◌≡◌, ◌⊎◌, ℕ, ◌+◌, ◌<◌, ◌≤◌, ◌^◌, true, List, [], ◌∷◌, ◌++◌, length, refl, sym, ap, subst, ◌∙◌, arith, inl, inr, append_assoc}
use Rattle.std.proofs.Props.{props}
use Rattle.std.proofs.Math.Logic.{∥∥₁_elim, ∥∥₁_map}
use Rattle.std.proofs.lemmas.List.{append-nil, length-append}
use Rattle.std.specs.List.{AllByRecursion}
use Rattle.std.specs.FinMap as map
use Rattle.st_disk.specs.declared.which.Which.{Which}
use Rattle.st_disk.specs.declared.which.Which.TheVariants as which
use Rattle.st_disk.specs.Crash.{UnsyncedWrites, IsCrashImage, settled, Sides, writes_of, other, SideHas}
use Rattle.st_disk.specs.Moments.{Moments, now, Throughout}
use Rattle.st_disk.proofs.CrashLaws.{pair_has_a, pair_has_b}
use Rattle.st_disk.proofs.MomentLaws.{started, throughout_map, at_end, Throughout-prop}
use Rattle.st_disk.proofs.DeviceCalls.{settled_seen}
use Rattle.st_records.specs.declared.version.Form.{Form}
use Rattle.st_records.specs.declared.version.Form.TheVariants as forms
use Rattle.st_records.specs.declared.record.Record.{Record}
use Rattle.st_records.specs.Limits.{IsGoodIn}
use Rattle.st_state.specs.State.{StateMap, replay}
use Rattle.st_state.specs.Keepable.{kept_records, kept_bytes_in, AllCanBeKeptIn, SaysAllOf}
use Rattle.st_state.proofs.KeepableLemmas.{kept_in_empty_in, kept_replay_in}
use Rattle.st_state.proofs.OneProofLemmas.{AllCanBeKeptIn-prop}
use Rattle.st_state.proofs.KeptLemmas.{kept_again, good_kept_in}
use Rattle.st_file.specs.Layout.{header_text_in, IsReadIn}
use Rattle.st_file.specs.Batch.{body_in, framed_in, may_stand, Batch, text_of_in, AreBatchesIn, records_of}
use Rattle.st_file.specs.Side.{HoldsUpToIn}
use Rattle.st_file.specs.Gated.{IsReady, IsOpenBehind, IsOpened}
use Rattle.st_file.proofs.LayoutLemmas.{itself_is_read, HasHeader-of}
use Rattle.st_file.proofs.LogLemmas.{ready_to_grow}
use Rattle.st_recovery.specs.Recovers.{WinsIn, IsMadeOf}
use Rattle.st_recovery.specs.Stored.{GivesWayIn, IsStoredIn, AllRecoverIn}
use Rattle.st_recovery.proofs.StoredLemmas.{AllRecover-prop, all_recover}
use Rattle.st_compaction.specs.Compacted.{one_batch_in, compacted_bytes_in, GivesWayOrOpenIn, SaysNoMoreThan}

-- ---- the state that is written

-- where a form is the newest that is written, records of it say what those of each form that is read say
says_all_read : (newest form : Form) → IsReadIn newest form → SaysAllOf newest form
says_all_read forms.Old forms.Old is = tt
says_all_read forms.Old forms.Plain is = absurd (omega (arith, is))
says_all_read forms.Old forms.Marked is = absurd (omega (arith, is))
says_all_read forms.Plain forms.Old is = tt
says_all_read forms.Plain forms.Plain is = tt
says_all_read forms.Plain forms.Marked is = absurd (omega (arith, is))
says_all_read forms.Marked forms.Old is = tt
says_all_read forms.Marked forms.Plain is = tt
says_all_read forms.Marked forms.Marked is = tt

keepable_of : (newest form : Form) (m : StateMap) → IsReadIn newest form → IsMadeOf form m → AllCanBeKeptIn newest m
keepable_of newest form m is made =
    subst (AllCanBeKeptIn newest) (sym made.taken) (kept_replay_in newest form (says_all_read newest form is) map.empty made.held (kept_in_empty_in newest) made.good)

-- so the state that good records of a form that is read made can be written in it
pub keepable_in : (newest form : Form) (m : StateMap) → IsReadIn newest form → ∥ IsMadeOf form m ∥₁ → AllCanBeKeptIn newest m
keepable_in newest form m is made = ∥∥₁_elim made (AllCanBeKeptIn-prop newest m) (keepable_of newest form m is)

-- and says no more than they could
pub says_no_more : (form : Form) (m : StateMap) → ∥ IsMadeOf form m ∥₁ → SaysNoMoreThan form m
says_no_more form m made = λ target entry found. (keepable_in form form m (itself_is_read form) made target entry found).explicit

-- behind it good records of that form made it
pub made_anew : (newest form : Form) (m : StateMap) → IsReadIn newest form → ∥ IsMadeOf form m ∥₁ → ∥ IsMadeOf newest m ∥₁
made_anew newest form m is made = ∣ record { held = kept_records m; good = good_kept_in newest m (keepable_in newest form m is made); taken = sym (kept_again m) } ∣₁

-- ---- the new side

-- the one batch of these records, or none
abbrev batches_of : List Record → List Batch
batches_of [] = []
batches_of (r ∷ rs) = record { gate = 1; records = r ∷ rs } ∷ []

first_may_be : (rs : List Record) → AllByRecursion (λ r. may_stand true r ≡ true) rs
first_may_be [] = tt
first_may_be (r ∷ rs) = (refl, first_may_be rs)

allowed : (newest : Form) (rs : List Record) → AllByRecursion (IsGoodIn newest) rs → length (body_in newest rs) ≤ 2 ^ 30 → AreBatchesIn newest true (batches_of rs)
allowed newest [] good short = tt
allowed newest (r ∷ rs) good short =
    (record { is_open = omega arith; filled = record { some = omega arith; good = good; allowed = first_may_be (r ∷ rs); short = short } }, tt)

text_of-batches : (newest : Form) (rs : List Record) → text_of_in newest (batches_of rs) ≡ one_batch_in newest rs
text_of-batches newest [] = refl
text_of-batches newest (r ∷ rs) = append-nil (1 ∷ framed_in newest (r ∷ rs))

records_of-batches : (rs : List Record) → rs ≡ records_of (batches_of rs)
records_of-batches [] = refl
records_of-batches (r ∷ rs) = sym (append-nil (r ∷ rs))

regrouped : (head batch rest : List ℕ) → (head ++ (batch ++ 0 ∷ [])) ++ rest ≡ head ++ (batch ++ 0 ∷ rest)
regrouped head batch rest = append_assoc head (batch ++ 0 ∷ []) rest ∙ ap (λ (y : List ℕ). head ++ y) (append_assoc batch (0 ∷ []) rest)

-- the text of a state behind an open gate makes a side that holds just its kept records
pub holds_compacted : (newest : Form) (x : List ℕ) (generation : ℕ) (m : StateMap) → 0 < generation → generation < 2 ^ 64 → AllCanBeKeptIn newest m → kept_bytes_in newest m ≤ 2 ^ 30 → IsOpenBehind [] (compacted_bytes_in newest generation m) x
    → HoldsUpToIn x newest generation (kept_records m) (length (compacted_bytes_in newest generation m))
holds_compacted newest x generation m some fits all short opened =
    let rs = kept_records m in
    let head = header_text_in newest generation in
    let text = compacted_bytes_in newest generation m in
    let rest = text_of_in newest (batches_of rs) ++ 0 ∷ opened.rest in
    let begins : x ≡ opened.gate ∷ (head ++ rest) =
    opened.bytes
    ∙ ap (λ (y : List ℕ). opened.gate ∷ y) (regrouped head (one_batch_in newest rs) opened.rest)
    ∙ ap (λ (y : List ℕ). opened.gate ∷ (head ++ (y ++ 0 ∷ opened.rest))) (sym (text_of-batches newest rs)) in
    record {
      batches = batches_of rs;
      after = opened.rest;
      reached = record {
        allowed = allowed newest rs (good_kept_in newest m all) short;
        header = HasHeader-of x newest generation opened.gate rest opened.is_open some fits begins;
      };
      in_order = records_of-batches rs;
      place = omega (arith, ap length opened.bytes, length-append text opened.rest);
    }

-- ---- pairs

pub other_twice : (side : Which) → other (other side) ≡ side
other_twice which.A = refl
other_twice which.B = refl

-- what a store that changes sides is about to write
pub record IsAnew (newest : Form) (generation next : ℕ) (m : StateMap) (text : List ℕ) : Type 0 where
  pub all : AllCanBeKeptIn newest m
  pub short : kept_bytes_in newest m ≤ 2 ^ 30
  pub is_next : next ≡ generation + 1
  pub fits : next < 2 ^ 64
  pub text_is : text ≡ compacted_bytes_in newest next m

holds_anew : {newest : Form} {generation next : ℕ} {m : StateMap} {text : List ℕ} → IsAnew newest generation next m text → (x : List ℕ) → IsOpenBehind [] text x → HoldsUpToIn x newest next (kept_records m) (length text)
holds_anew {newest} {generation} {next} {m} {text} anew x opened =
    let some : 0 < next = omega (arith, anew.is_next) in
    let told = subst (λ (t : List ℕ). IsOpenBehind [] t x) anew.text_is opened in
    subst (λ (n : ℕ). HoldsUpToIn x newest next (kept_records m) n) (sym (ap length anew.text_is)) (holds_compacted newest x next m some anew.fits anew.all anew.short told)

-- the old side gives way to the new one
old_gives_way : (newest : Form) (x : List ℕ) (form : Form) → IsReadIn newest form → (generation next end : ℕ) (held : List Record) → HoldsUpToIn x form generation held end → next ≡ generation + 1 → GivesWayIn newest next x
old_gives_way newest x form is_read generation next end held holds is_next = inr (generation, (held, (form, is_read, end, holds)), omega (arith, is_next))

-- one of both sides counts, and makes the state
one_wins : {newest : Form} (x y : List ℕ) {form : Form} {generation next end : ℕ} {m : StateMap} {text : List ℕ} {held : List Record} → IsReadIn newest form → HoldsUpToIn x form generation held end → m ≡ replay map.empty held → IsAnew newest generation next m text
    → GivesWayOrOpenIn newest generation text y → WinsIn newest x y m ⊎ WinsIn newest y x m
one_wins {newest} x y {form} {generation} {next} {end} {m} {text} {held} is_read holds state_is anew (inl gives) =
    inl (record { form = form; generation = generation; end = end; counts = record { is_read = is_read; held = held; holds = holds; over = gives; state_is = state_is } })
one_wins {newest} x y {form} {generation} {next} {end} {m} {text} {held} is_read holds state_is anew (inr opened) =
    inr (record {
      form = newest;
      generation = next;
      end = length text;
      counts = record { is_read = itself_is_read newest; held = kept_records m; holds = holds_anew anew y opened; over = old_gives_way newest x form is_read generation next end held holds anew.is_next; state_is = sym (kept_again m) };
    })

swapped : {A B : Type 0} → A ⊎ B → B ⊎ A
swapped (inl a) = inr a
swapped (inr b) = inl b

pairs_kept : {newest : Form} (side : Which) {seen : List ℕ} {away : UnsyncedWrites} {form : Form} {generation next end : ℕ} {m : StateMap} {text : List ℕ} (start sides : Sides)
    → IsStoredIn newest seen (writes_of side start) away form generation end m → IsAnew newest generation next m text → SideHas (other side) (writes_of (other (other side)) start) (GivesWayOrOpenIn newest generation text) sides → AllRecoverIn newest m sides
pairs_kept {newest} which.A {seen} {away} {form} {generation} {next} {end} start sides st anew has = λ a b is_a is_b.
    let both = pair_has_b {Q = λ x. x ≡ seen} sides has (λ x image. settled_seen st.on_disk image) a b is_a is_b in
    let holds = subst (λ (x : List ℕ). HoldsUpToIn x form generation st.held end) (sym both.0) st.holds in
    ∣ inr (one_wins a b st.is_read holds st.state_is anew both.1) ∣₁
pairs_kept {newest} which.B {seen} {away} {form} {generation} {next} {end} start sides st anew has = λ a b is_a is_b.
    let both = pair_has_a {Q = λ x. x ≡ seen} sides has (λ x image. settled_seen st.on_disk image) a b is_a is_b in
    let holds = subst (λ (x : List ℕ). HoldsUpToIn x form generation st.held end) (sym both.1) st.holds in
    ∣ inr (swapped (one_wins b a st.is_read holds st.state_is anew both.0)) ∣₁

-- ---- compact

-- nothing was called
pub recovers_still : {newest : Form} (side : Which) {s : List ℕ} {form : Form} {generation end : ℕ} {m : StateMap} (m0 : Moments) → ∥ IsStoredIn newest s (writes_of side (now m0)) (writes_of (other side) (now m0)) form generation end m ∥₁ → Throughout m0 m0 (AllRecoverIn newest m)
recovers_still side m0 stored = started m0 (all_recover side (now m0) stored)

-- the other side as the calls find it
module _ {newest : Form} (seen : Which → List ℕ) (side o : Which) (sides : Sides) {form : Form} {generation end : ℕ} {m : StateMap} (stored : ∥ IsStoredIn newest (seen side) (writes_of side sides) (writes_of (other side) sides) form generation end m ∥₁) (on_other : o ≡ other side)
    (image : IsCrashImage (writes_of o sides) (seen o)) where
  pub other_on_disk : writes_of o sides ≡ settled (seen o)
  other_on_disk =
      let found = subst (λ (w : Which). IsCrashImage (writes_of w sides) (seen w)) on_other image in
      let there : writes_of (other side) sides ≡ settled (seen (other side)) = ∥∥₁_elim stored (hlevel props) (λ st. st.away_on_disk ∙ ap settled (sym (settled_seen st.away_on_disk found))) in
      subst (λ (w : Which). writes_of w sides ≡ settled (seen w)) (sym on_other) there

-- a run of calls that writes the other side anew
abbrev pub Rewrites : (newest : Form) (seen : Which → List ℕ) (o : Which) (text : List ℕ) → Moments → Moments → Type 0
Rewrites newest seen o text m0 m1 = (generation : ℕ) → GivesWayIn newest generation (seen o) → Throughout m0 m1 (SideHas o (writes_of (other o) (now m0)) (GivesWayOrOpenIn newest generation text))

module _ {newest : Form} (seen : Which → List ℕ) (side o : Which) {m0 m1 : Moments} {form : Form} {generation next end : ℕ} {m : StateMap} {text : List ℕ}
    (stored : ∥ IsStoredIn newest (seen side) (writes_of side (now m0)) (writes_of (other side) (now m0)) form generation end m ∥₁) (on_other : o ≡ other side) (image : IsCrashImage (writes_of o (now m0)) (seen o)) (anew : IsAnew newest generation next m text)
    (run : Rewrites newest seen o text m0 m1) where
  run_on_other : IsStoredIn newest (seen side) (writes_of side (now m0)) (writes_of (other side) (now m0)) form generation end m
      → Throughout m0 m1 (SideHas (other side) (writes_of (other (other side)) (now m0)) (GivesWayOrOpenIn newest generation text))
  run_on_other st =
      let found = subst (λ (w : Which). IsCrashImage (writes_of w (now m0)) (seen w)) on_other image in
      let there = subst (λ (w : Which). Rewrites newest seen w text m0 m1) on_other run in
      there generation (st.over (seen (other side)) found)

  -- at every moment each pair recovers the state
  pub compacting : Throughout m0 m1 (AllRecoverIn newest m)
  compacting = ∥∥₁_elim stored (Throughout-prop (AllRecover-prop newest m)) (λ st. throughout_map (run_on_other st) (λ sides has. pairs_kept side (now m0) sides st anew has))

  -- and at its end the other side counts
  stored_by : (seen1 : Which → List ℕ) → IsOpened [] text (seen1 o) (writes_of o (now m1)) → ∥ IsStoredIn newest (seen1 o) (writes_of o (now m1)) (writes_of (other o) (now m1)) newest next (length text) m ∥₁
  stored_by seen1 opened =
      ∥∥₁_map stored (λ st.
      let left : writes_of side (now m1) ≡ settled (seen side) =
      ap (λ (w : Which). writes_of w (now m1)) (sym (other_twice side)) ∙ (at_end (run_on_other st)).away_same ∙ ap (λ (w : Which). writes_of w (now m0)) (other_twice side) ∙ st.on_disk in
      let back : other o ≡ side = ap other on_other ∙ other_twice side in
      let away : writes_of (other o) (now m1) ≡ settled (seen side) = ap (λ (w : Which). writes_of w (now m1)) back ∙ left in
      record {
        on_disk = opened.on_disk;
        is_read = itself_is_read newest;
        held = kept_records m;
        holds = holds_anew anew (seen1 o) opened.opened;
        state_is = sym (kept_again m);
        away_on_disk = away ∙ ap settled (sym (ap (λ (w : UnsyncedWrites). w.synced) away));
        over = λ x found. subst (GivesWayIn newest next) (sym (settled_seen away found)) (old_gives_way newest (seen side) form st.is_read generation next end st.held st.holds anew.is_next);
      })

  pub stored_anew : (seen1 : Which → List ℕ) {n : ℕ} → n ≡ length text → IsOpened [] text (seen1 o) (writes_of o (now m1)) → ∥ IsStoredIn newest (seen1 o) (writes_of o (now m1)) (writes_of (other o) (now m1)) newest next n m ∥₁
  stored_anew seen1 {n} end_is opened =
      subst (λ (k : ℕ). ∥ IsStoredIn newest (seen1 o) (writes_of o (now m1)) (writes_of (other o) (now m1)) newest next k m ∥₁) (sym end_is) (stored_by seen1 opened)

-- so it is ready for a batch
pub ready_anew : {newest : Form} {generation next n : ℕ} {m : StateMap} {text seen1 : List ℕ} {writes : UnsyncedWrites} → IsAnew newest generation next m text → n ≡ length text → IsOpened [] text seen1 writes → IsReady seen1 writes n
ready_anew {newest} {generation} {next} {n} {m} {text} {seen1} {writes} anew end_is opened =
    subst (λ (k : ℕ). IsReady seen1 writes k) (sym end_is) (ready_to_grow seen1 writes newest next (length text) (kept_records m) (holds_anew anew seen1 opened.opened) opened.on_disk)

-- and holds just the kept records
pub held_anew : {newest : Form} (seen1 : Which → List ℕ) (side o : Which) {generation next n : ℕ} {m : StateMap} {text : List ℕ} {writes : UnsyncedWrites} → IsAnew newest generation next m text → o ≡ other side → n ≡ length text → IsOpened [] text (seen1 o) writes
    → HoldsUpToIn (seen1 (other side)) newest (generation + 1) (kept_records m) n
held_anew {newest} seen1 side o {generation} {next} {n} {m} {text} anew on_other end_is opened =
    let here = holds_anew anew (seen1 o) opened.opened in
    let there = subst (λ (w : Which). HoldsUpToIn (seen1 w) newest next (kept_records m) (length text)) on_other here in
    let later = subst (λ (k : ℕ). HoldsUpToIn (seen1 (other side)) newest k (kept_records m) (length text)) anew.is_next there in
    subst (λ (k : ℕ). HoldsUpToIn (seen1 (other side)) newest (generation + 1) (kept_records m) k) (sym end_is) later
