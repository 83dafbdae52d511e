-- What the two writes of a gated text leave on a side.
use Rattle.std.proofs.Common.{◌≡◌, ℕ, zero, suc, ◌+◌, ◌<◌, ◌≤◌, List, [], ◌∷◌, ◌++◌, length, take, drop, get_or, sym, ap, ◌∙◌, arith, inl, inr, append_assoc}
use Rattle.std.proofs.lemmas.List.{take-append-drop, take_more, drop_more, take_at, drop_at, length-take-le, length-append}
use Rattle.st_disk.specs.declared.which.Which.{Which}
use Rattle.st_disk.specs.Crash.{UnsyncedWrites, IsCrashImage, settled, written_at, Sides, writes_of, other, SideHas, overwritten}
use Rattle.st_disk.specs.Moments.{Moments, now, after_write, after_sync, Passes, MayPass, Throughout}
use Rattle.st_disk.proofs.DeviceCalls.{at_first, writes_on, side_synced, written_behind, written_within, settled_seen}
use Rattle.st_file.specs.Gated.{IsReady, IsClosedBehind, IsClosedOrOpen}

-- a list cut at a place, with what stands there
pub cut_at : (x : List ℕ) (i : ℕ) → i < length x → x ≡ take i x ++ get_or x i 0 ∷ drop (i + 1) x
cut_at x i lt = sym (take-append-drop i x) ∙ ap (λ (y : List ℕ). take i x ++ y) (drop_more x i 0 lt)

-- the front up to a gate and the gate
pub front_and_gate : (s : List ℕ) (gate : ℕ) → gate < length s → get_or s gate 0 ≡ 0 → take (gate + 1) s ≡ take gate s ++ 0 ∷ []
front_and_gate s gate lt closed = take_more s gate 0 lt ∙ ap (λ (b : ℕ). take gate s ++ b ∷ []) closed

-- what has that front and that gate
pub closed_by_front : (s x : List ℕ) (gate : ℕ) → gate < length s → get_or s gate 0 ≡ 0 → take (gate + 1) x ≡ take (gate + 1) s → IsClosedBehind (take gate s) x
closed_by_front s x gate lt closed e = record {
  rest = drop (gate + 1) x;
  bytes =
      sym (take-append-drop (gate + 1) x)
      ∙ ap (λ (y : List ℕ). y ++ drop (gate + 1) x) (e ∙ front_and_gate s gate lt closed)
      ∙ append_assoc (take gate s) (0 ∷ []) (drop (gate + 1) x);
}

-- a settled side with a closed gate has no other image
pub closed_first : (s : List ℕ) (writes : UnsyncedWrites) (gate : ℕ) (text : List ℕ) → IsReady s writes gate → (x : List ℕ) → IsCrashImage writes x → IsClosedOrOpen (take gate s) text x
closed_first s writes gate text ready x image =
    let same : x ≡ s = settled_seen ready.on_disk image in
    inl (closed_by_front s x gate ready.within ready.closed (ap (take (gate + 1)) same))

-- while the text is written the gate stays closed
pub closed_written : (s : List ℕ) (writes : UnsyncedWrites) (gate n : ℕ) (text : List ℕ) → IsReady s writes gate → (x : List ℕ) → IsCrashImage (written_at (gate + 1) n writes) x → IsClosedOrOpen (take gate s) text x
closed_written s writes gate n text ready x image =
    let within : gate + 1 ≤ length s = omega (arith, ready.within) in
    inl (closed_by_front s x gate ready.within ready.closed (written_behind (gate + 1) n ready.on_disk within x image))

-- the side with the text behind the closed gate
pub with_text : (s text : List ℕ) (gate : ℕ) → gate < length s → get_or s gate 0 ≡ 0
    → overwritten s (gate + 1) text ≡ take gate s ++ 0 ∷ (text ++ drop (gate + 1 + length text) s)
with_text s text gate lt closed =
    ap (λ (y : List ℕ). (y ++ text) ++ drop (gate + 1 + length text) s) (front_and_gate s gate lt closed)
    ∙ append_assoc (take gate s ++ 0 ∷ []) text (drop (gate + 1 + length text) s)
    ∙ append_assoc (take gate s) (0 ∷ []) (text ++ drop (gate + 1 + length text) s)

-- what any byte at the gate leaves
pub gated_by : (front text rest x : List ℕ) (b : ℕ) → x ≡ front ++ b ∷ (text ++ rest) → IsClosedOrOpen front text x
gated_by front text rest x zero e = inl (record { rest = text ++ rest; bytes = e })
gated_by front text rest x (suc b) e = inr (record { gate = suc b; is_open = omega arith; rest = rest; bytes = e })

-- a side whose gate alone is written
pub gate_written : (front after x : List ℕ) (gate : ℕ) → length front ≡ gate → length x ≡ length (front ++ 0 ∷ after) → take gate x ≡ front → drop (gate + 1) x ≡ after
    → x ≡ front ++ get_or x gate 0 ∷ after
gate_written front after x gate len same_length before behind =
    let lt : gate < length x = omega (arith, same_length, length-append front (0 ∷ after), len) in
    cut_at x gate lt ∙ ap (λ (y : List ℕ). y ++ get_or x gate 0 ∷ drop (gate + 1) x) before ∙ ap (λ (y : List ℕ). front ++ get_or x gate 0 ∷ y) behind

drop_gate : (front after : List ℕ) (b gate : ℕ) → length front ≡ gate → drop (gate + 1) (front ++ b ∷ after) ≡ after
drop_gate front after b gate len =
    ap (drop (gate + 1)) (sym (append_assoc front (b ∷ []) after)) ∙ drop_at (front ++ b ∷ []) after (gate + 1) (omega (arith, length-append front (b ∷ []), len))

-- while the gate is written it is closed or open, and the text stands behind it
pub opened_written : (s s1 : List ℕ) (writes writes1 : UnsyncedWrites) (gate : ℕ) (text : List ℕ) → IsReady s writes gate → s1 ≡ overwritten s (gate + 1) text → writes1 ≡ settled s1
    → (x : List ℕ) → IsCrashImage (written_at gate 1 writes1) x → IsClosedOrOpen (take gate s) text x
opened_written s s1 writes writes1 gate text ready e on_disk x image =
    let front = take gate s in
    let rest = drop (gate + 1 + length text) s in
    let len : length front ≡ gate = length-take-le gate s (omega (arith, ready.within)) in
    let s1_is : s1 ≡ front ++ 0 ∷ (text ++ rest) = e ∙ with_text s text gate ready.within ready.closed in
    let room : gate + 1 ≤ length s1 = omega (arith, ap length s1_is, length-append front (0 ∷ (text ++ rest)), len) in
    let le : gate ≤ length s1 = omega arith in
    let torn = written_within gate 1 on_disk room x image in
    let before : take gate x ≡ front = written_behind gate 1 on_disk le x image ∙ ap (take gate) s1_is ∙ take_at front (0 ∷ (text ++ rest)) gate len in
    let behind : drop (gate + 1) x ≡ text ++ rest = torn.1 ∙ ap (drop (gate + 1)) s1_is ∙ drop_gate front (text ++ rest) 0 gate len in
    gated_by front text rest x (get_or x gate 0) (gate_written front (text ++ rest) x gate len (torn.0 ∙ ap length s1_is) before behind)

-- at a moment of the calls the other side is as before the first, and on this one the gate is closed, or open before the text
abbrev pub IsGated : Which → ℕ → (text s : List ℕ) → Moments → Sides → Type 0
IsGated side gate text s start = SideHas side (writes_of (other side) (now start)) (IsClosedOrOpen (take gate s) text)

-- the calls one after another
module _ {side : Which} {gate : ℕ} {text s : List ℕ} {m0 : Moments} (ready : IsReady s (writes_of side (now m0)) gate) where
  pub text_sent : {m1 : Moments} → MayPass (after_write side (gate + 1) (length text) m0) m0 m1 → Throughout m0 m1 (IsGated side gate text s m0)
  text_sent may =
      writes_on (at_first m0 (closed_first s (writes_of side (now m0)) gate text ready)) (gate + 1) (length text) may (closed_written s (writes_of side (now m0)) gate (length text) text ready)

  pub gate_sent : {s1 : List ℕ} {m1 m2 m3 : Moments} → Throughout m0 m2 (IsGated side gate text s m0) → s1 ≡ overwritten s (gate + 1) text → Passes (after_sync side s1 m1) m1 m2 → MayPass (after_write side gate 1 m2) m2 m3
      → Throughout m0 m3 (IsGated side gate text s m0)
  gate_sent {s1} {m1} {m2} {m3} so_far e synced may =
      writes_on so_far gate 1 may (opened_written s s1 (writes_of side (now m0)) (writes_of side (now m2)) gate text ready e (side_synced side s1 synced))
