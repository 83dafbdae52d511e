-- What the steps of clearing a side, and of writing a text on it, leave there.
use Rattle.std.proofs.Common.{◌≡◌, ℕ, zero, suc, ◌+◌, ◌<◌, ◌≤◌, List, [], ◌∷◌, ◌++◌, length, take, drop, get_or, refl, sym, ap, subst, ◌∙◌, arith, inl, inr, length-take}
use Rattle.st_disk.specs.declared.which.Which.{Which}
use Rattle.st_disk.specs.Crash.{UnsyncedWrites, IsCrashImage, settled, written_at, cut_to, writes_of, other, SideHas, overwritten}
use Rattle.st_disk.specs.Moments.{Moments, now, after_write, after_cut, MayPass, Throughout}
use Rattle.st_disk.proofs.CrashLaws.{side_map}
use Rattle.st_disk.proofs.MomentLaws.{throughout_map, then_goes, at_end}
use Rattle.st_disk.proofs.DeviceCalls.{at_first, writes_on, cuts_on, settled_seen, written_within}
use Rattle.st_records.specs.declared.version.Form.{Form}
use Rattle.st_records.specs.declared.record.Record.{Record}
use Rattle.st_file.specs.Layout.{header_text_in}
use Rattle.st_file.specs.Batch.{text_of_in}
use Rattle.st_file.specs.Side.{IsVoid, HoldsUpToIn}
use Rattle.st_file.specs.Gated.{IsReady, IsClosedOrOpen}
use Rattle.st_file.specs.Created.{HasClosedGate}
use Rattle.st_file.proofs.LayoutLemmas.{HasHeader-of, HasHeader-text}
use Rattle.st_file.proofs.CreatedLemmas.{short_void, void_short, closed_void}
use Rattle.st_recovery.specs.Stored.{GivesWayIn}
use Rattle.st_compaction.specs.Compacted.{IsRetired, IsVoidOrOpen, GivesWayOrOpenIn}

-- ---- runs of calls on one side

-- what each image of the side has, it has in other words
pub side_so_far : {side : Which} {away : UnsyncedWrites} {P Q : List ℕ → Type 0} {m0 m1 : Moments} → Throughout m0 m1 (SideHas side away P) → ((x : List ℕ) → P x → Q x) → Throughout m0 m1 (SideHas side away Q)
side_so_far so_far implies = throughout_map so_far (λ sides has. side_map sides implies has)

-- one run of calls on the side after another
pub side_goes_on : {side : Which} {away : UnsyncedWrites} {P Q R : List ℕ → Type 0} {m0 m1 m2 : Moments} → Throughout m0 m1 (SideHas side away P) → Throughout m1 m2 (SideHas side (writes_of (other side) (now m1)) Q)
    → ((x : List ℕ) → P x → R x) → ((x : List ℕ) → Q x → R x) → Throughout m0 m2 (SideHas side away R)
side_goes_on so_far more first second =
    then_goes (side_so_far so_far first)
    (throughout_map more (λ sides has. record { away_same = has.away_same ∙ (at_end so_far).away_same; each = λ bytes is. second bytes (has.each bytes is) }))

-- no call yet that changes what a crash leaves
pub side_still : (side : Which) {P : List ℕ → Type 0} {m0 m : Moments} → ((x : List ℕ) → IsCrashImage (writes_of side (now m0)) x → P x) → m ≡ m0 → Throughout m0 m (SideHas side (writes_of (other side) (now m0)) P)
side_still side {P} {m0} {m} each same = subst (λ (n : Moments). Throughout m0 n (SideHas side (writes_of (other side) (now m0)) P)) (sym same) (at_first m0 each)

-- ---- the first gate

pub closed_gate_void : (x : List ℕ) → HasClosedGate x → IsVoid x
closed_gate_void [] closed = tt
closed_gate_void (b ∷ []) closed = tt
closed_gate_void (b ∷ c ∷ x) closed = closed.1

zero_void : (x : List ℕ) → IsVoid (0 ∷ x)
zero_void [] = tt
zero_void (b ∷ x) = refl

-- another open gate in front of the same bytes holds the same records
holds_by_gate : (s x : List ℕ) (form : Form) (generation end gate : ℕ) (held : List Record) → HoldsUpToIn s form generation held end → 0 < gate → x ≡ gate ∷ drop 1 s → HoldsUpToIn x form generation held end
holds_by_gate s x form generation end gate held holds is_open e =
    let h = holds.reached.header in
    let rest = text_of_in form holds.batches ++ 0 ∷ holds.after in
    let before : s ≡ h.named.gate ∷ (header_text_in form generation ++ rest) = HasHeader-text s form generation rest h in
    let begins : x ≡ gate ∷ (header_text_in form generation ++ rest) = e ∙ ap (λ (y : List ℕ). gate ∷ drop 1 y) before in
    record {
      batches = holds.batches;
      after = holds.after;
      reached = record { allowed = holds.reached.allowed; header = HasHeader-of x form generation gate rest is_open h.some h.fits begins };
      in_order = holds.in_order;
      place = omega (arith, holds.place, ap length begins, ap length before);
    }

-- any byte over an open gate leaves a side that gives way as it did
gives_way_by_gate : (newest : Form) (generation : ℕ) (s x : List ℕ) → GivesWayIn newest generation s → (HasClosedGate s → ⊥) → length x ≡ length s → drop 1 x ≡ drop 1 s → GivesWayIn newest generation x
gives_way_by_gate newest generation s [] gives open_gate len behind = inl tt
gives_way_by_gate newest generation s (zero ∷ x) gives open_gate len behind = inl (zero_void x)
gives_way_by_gate newest generation s (suc b ∷ x) (inl void) open_gate len behind = inl (short_void (suc b ∷ x) (omega (arith, len, void_short s void open_gate)))
gives_way_by_gate newest generation s (suc b ∷ x) (inr less) open_gate len behind =
    let same : suc b ∷ x ≡ suc b ∷ drop 1 s = ap (λ (y : List ℕ). suc b ∷ y) behind in
    let some : 0 < suc b = omega arith in
    inr (less.0, (less.1.0, (less.1.1.0, less.1.1.1, less.1.1.2, holds_by_gate s (suc b ∷ x) less.1.1.0 less.0 less.1.1.2 (suc b) less.1.0 less.1.1.3 some same)), less.2)

pub gives_way_first : (newest : Form) (generation : ℕ) {s : List ℕ} {writes : UnsyncedWrites} → GivesWayIn newest generation s → writes ≡ settled s → (x : List ℕ) → IsCrashImage writes x → GivesWayIn newest generation x
gives_way_first newest generation gives on_disk x image = subst (GivesWayIn newest generation) (sym (settled_seen on_disk image)) gives

gives_way_written : (newest : Form) (generation : ℕ) {s : List ℕ} {writes : UnsyncedWrites} → GivesWayIn newest generation s → (HasClosedGate s → ⊥) → 0 < length s → writes ≡ settled s → (x : List ℕ) → IsCrashImage (written_at 0 1 writes) x → GivesWayIn newest generation x
gives_way_written newest generation {s} gives open_gate some on_disk x image =
    let room : 0 + 1 ≤ length s = omega (arith, some) in
    let torn = written_within 0 1 on_disk room x image in
    gives_way_by_gate newest generation s x gives open_gate torn.0 torn.1

-- a byte written over the open gate of a side that isn't empty
pub gate_closing : {side : Which} {m0 m m1 : Moments} {s : List ℕ} (newest : Form) (generation : ℕ) → GivesWayIn newest generation s → (HasClosedGate s → ⊥) → 0 < length s → writes_of side (now m0) ≡ settled s → m ≡ m0 → MayPass (after_write side 0 1 m) m m1
    → Throughout m0 m1 (SideHas side (writes_of (other side) (now m0)) (GivesWayIn newest generation))
gate_closing {side} {m0} {m} {m1} {s} newest generation gives open_gate some on_disk same may =
    let may0 = subst (λ (n : Moments). MayPass (after_write side 0 1 n) n m1) same may in
    writes_on (at_first m0 (gives_way_first newest generation gives on_disk)) 0 1 may0 (gives_way_written newest generation gives open_gate some on_disk)

pub ready_closed : (s s1 : List ℕ) (writes : UnsyncedWrites) → s1 ≡ overwritten s 0 (0 ∷ []) → writes ≡ settled s1 → IsReady s1 writes 0
ready_closed s s1 writes e on_disk =
    let one : s1 ≡ 0 ∷ drop 1 s = e in
    record { on_disk = on_disk; within = omega (arith, ap length one); closed = ap (λ (y : List ℕ). get_or y 0 0) one }

-- ---- the cut behind it

pub void_ready : {s : List ℕ} {writes : UnsyncedWrites} → IsReady s writes 0 → (x : List ℕ) → IsCrashImage writes x → IsVoid x
void_ready {s} ready x image = subst IsVoid (sym (settled_seen ready.on_disk image)) (closed_gate_void s (ready.within, ready.closed))

void_cut : {s : List ℕ} {writes : UnsyncedWrites} → IsReady s writes 0 → (x : List ℕ) → IsCrashImage (cut_to 1 writes) x → IsVoid x
void_cut {s} ready x image =
    let torn = subst (λ (w : UnsyncedWrites). IsCrashImage (cut_to 1 w) x) ready.on_disk image in
    let some : 0 < length x = omega (arith, torn.no_shorter, ready.within) in
    let uncut : 0 < (cut_to 1 (settled s)).least = omega (arith, ready.within) in
    let closed : get_or x 0 0 ≡ 0 = torn.kept 0 ready.within uncut (λ none. none) ∙ ready.closed in
    closed_gate_void x (some, closed)

pub gate_left : {side : Which} {m0 m m1 : Moments} {s : List ℕ} → IsReady s (writes_of side (now m0)) 0 → m ≡ m0 → MayPass (after_cut side 1 m) m m1 → Throughout m0 m1 (SideHas side (writes_of (other side) (now m0)) IsVoid)
gate_left {side} {m0} {m} {m1} {s} ready same may =
    let may0 = subst (λ (n : Moments). MayPass (after_cut side 1 n) n m1) same may in
    cuts_on (at_first m0 (void_ready ready)) 1 may0 (void_cut ready)

pub retired_cut : (s s1 : List ℕ) (writes : UnsyncedWrites) → s1 ≡ take 1 s → writes ≡ settled s1 → IsRetired s1 writes
retired_cut s s1 writes e on_disk = record { on_disk = on_disk; bare = omega (arith, ap length e, length-take 1 s) }

-- ---- the text behind it

pub void_or_open : (text x : List ℕ) → IsClosedOrOpen [] text x → IsVoidOrOpen text x
void_or_open text x (inl closed) = inl (closed_void x closed)
void_or_open text x (inr opened) = inr opened

pub gives_way_or_open : (newest : Form) (generation : ℕ) (text x : List ℕ) → IsVoidOrOpen text x → GivesWayOrOpenIn newest generation text x
gives_way_or_open newest generation text x (inl void) = inl (inl void)
gives_way_or_open newest generation text x (inr opened) = inr opened
