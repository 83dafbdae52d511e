-- What the steps of a creation leave on a side.
use Rattle.std.proofs.Common.{◌≡◌, ℕ, ◌<◌, ◌≤◌, ◌^◌, List, [], ◌∷◌, ◌++◌, length, refl, sym, ap, subst, ◌∙◌, arith, inl, inr, append_assoc}
use Rattle.std.proofs.lemmas.List.{length-append}
use Rattle.st_disk.specs.declared.which.Which.{Which}
use Rattle.st_disk.specs.Crash.{UnsyncedWrites, IsCrashImage, settled, written_at, writes_of, other, SideHas}
use Rattle.st_disk.specs.Moments.{Moments, now, after_write, MayPass, Throughout}
use Rattle.st_disk.proofs.CrashLaws.{side_map}
use Rattle.st_disk.proofs.MomentLaws.{throughout_map, then_goes, at_end}
use Rattle.st_disk.proofs.DeviceCalls.{at_first, writes_on, settled_seen}
use Rattle.st_records.specs.declared.version.Form.{Form}
use Rattle.st_file.specs.Layout.{header_text_in}
use Rattle.st_file.specs.Side.{IsVoid}
use Rattle.st_file.specs.Gated.{IsClosedBehind, IsOpenBehind, IsClosedOrOpen, IsOpened}
use Rattle.st_file.specs.Created.{HasClosedGate, IsNewIn, IsVoidOrNewIn, IsCreatedIn}
use Rattle.st_file.proofs.LayoutLemmas.{HasHeader-of}

-- a side of one byte at most is void
pub short_void : (x : List ℕ) → length x ≤ 1 → IsVoid x
short_void [] le = tt
short_void (b ∷ []) le = tt
short_void (b ∷ c ∷ x) le = absurd (omega arith)

-- and a void side without a closed gate has no more
pub void_short : (x : List ℕ) → IsVoid x → (HasClosedGate x → ⊥) → length x ≤ 1
void_short [] void open_gate = omega arith
void_short (b ∷ []) void open_gate = omega arith
void_short (b ∷ c ∷ x) void open_gate = absurd (open_gate (omega arith, void))

pub closed_void : (x : List ℕ) → IsClosedBehind [] x → IsVoid x
closed_void x closed = subst IsVoid (sym closed.bytes) (by_rest closed.rest)
  where
    by_rest : (rest : List ℕ) → IsVoid (0 ∷ rest)
    by_rest [] = tt
    by_rest (b ∷ rest) = refl

-- a settled side has no other image
pub void_first : (s : List ℕ) (writes : UnsyncedWrites) → IsVoid s → writes ≡ settled s → (x : List ℕ) → IsCrashImage writes x → IsVoid x
void_first s writes void on_disk x image = subst IsVoid (sym (settled_seen on_disk image)) void

-- a write of one byte to a short side leaves it short
pub void_written : (s : List ℕ) (writes : UnsyncedWrites) → length s ≤ 1 → writes ≡ settled s → (x : List ℕ) → IsCrashImage (written_at 0 1 writes) x → IsVoid x
void_written s writes short on_disk x image =
    let torn = subst (λ (w : UnsyncedWrites). IsCrashImage (written_at 0 1 w) x) on_disk image in
    short_void x (omega (arith, torn.no_longer, short))

-- a header behind an open gate makes a side that holds no records
pub new_by_header : (x : List ℕ) (form : Form) (generation : ℕ) → 0 < generation → generation < 2 ^ 64 → IsOpenBehind [] (header_text_in form generation ++ 0 ∷ []) x → IsNewIn form generation x
new_by_header x form generation some fits opened =
    let text = header_text_in form generation in
    let e : x ≡ opened.gate ∷ (text ++ 0 ∷ opened.rest) = opened.bytes ∙ ap (λ (y : List ℕ). opened.gate ∷ y) (append_assoc text (0 ∷ []) opened.rest) in
    record {
      batches = [];
      after = opened.rest;
      reached = record { allowed = tt; header = HasHeader-of x form generation opened.gate (0 ∷ opened.rest) opened.is_open some fits e };
      in_order = refl;
      place = omega (arith, ap length e, length-append text (0 ∷ opened.rest));
    }

pub void_or_new : (form : Form) (generation : ℕ) → 0 < generation → generation < 2 ^ 64 → (x : List ℕ) → IsClosedOrOpen [] (header_text_in form generation ++ 0 ∷ []) x → IsVoidOrNewIn form generation x
void_or_new form generation some fits x (inl closed) = inl (closed_void x closed)
void_or_new form generation some fits x (inr opened) = inr (new_by_header x form generation some fits opened)

-- a byte written where there was no closed gate
pub gate_closing : {side : Which} {m0 m m1 : Moments} {s : List ℕ} → IsVoid s → (HasClosedGate s → ⊥) → writes_of side (now m0) ≡ settled s → m ≡ m0 → MayPass (after_write side 0 1 m) m m1
    → Throughout m0 m1 (SideHas side (writes_of (other side) (now m0)) IsVoid)
gate_closing {side} {m0} {m} {m1} {s} void open_gate on_disk same may =
    let may0 = subst (λ (n : Moments). MayPass (after_write side 0 1 n) n m1) same may in
    writes_on (at_first m0 (void_first s (writes_of side (now m0)) void on_disk)) 0 1 may0 (void_written s (writes_of side (now m0)) (void_short s void open_gate) on_disk)

-- a header's text put behind the closed gate
pub then_new : {side : Which} {away : UnsyncedWrites} {m0 m1 m2 : Moments} {text : List ℕ} {form : Form} {generation : ℕ} → 0 < generation → generation < 2 ^ 64 → text ≡ header_text_in form generation ++ 0 ∷ []
    → Throughout m0 m1 (SideHas side away IsVoid) → Throughout m1 m2 (SideHas side (writes_of (other side) (now m1)) (IsClosedOrOpen [] text)) → Throughout m0 m2 (SideHas side away (IsVoidOrNewIn form generation))
then_new {side} {away} {m0} {m1} {m2} {text} {form} {generation} some fits text_is so_far gated =
    let told = subst (λ (t : List ℕ). Throughout m1 m2 (SideHas side (writes_of (other side) (now m1)) (IsClosedOrOpen [] t))) text_is gated in
    then_goes
    (throughout_map so_far (λ sides has. side_map sides (λ x void. inl void) has))
    (throughout_map told (λ sides has. record { away_same = has.away_same ∙ (at_end so_far).away_same; each = λ bytes is. void_or_new form generation some fits bytes (has.each bytes is) }))

pub created_by : {text seen : List ℕ} {writes : UnsyncedWrites} {form : Form} {generation : ℕ} → 0 < generation → generation < 2 ^ 64 → text ≡ header_text_in form generation ++ 0 ∷ [] → IsOpened [] text seen writes → IsCreatedIn form generation seen writes
created_by {text} {seen} {writes} {form} {generation} some fits text_is opened =
    let told = subst (λ (t : List ℕ). IsOpenBehind [] t seen) text_is opened.opened in
    record { on_disk = opened.on_disk; fresh = new_by_header seen form generation some fits told }
