-- What a commit leaves on its side, in the words of its clauses.
use Rattle.std.proofs.Common.{◌≡◌, ◌↔◌, ℕ, ◌+◌, false, Result, Err, IsErrOf, List, [], ◌∷◌, ◌++◌, length, take, sym, ap, subst, ◌∙◌, inl, inr}
use Rattle.std.proofs.lemmas.List.{append-nil, nil_from_length}
use Rattle.st_disk.specs.declared.which.Which.{Which}
use Rattle.st_disk.specs.Crash.{UnsyncedWrites, writes_of, other, SideHas}
use Rattle.st_disk.specs.Moments.{Moments, now, Throughout}
use Rattle.st_disk.proofs.CrashLaws.{side_map}
use Rattle.st_disk.proofs.MomentLaws.{throughout_map}
use Rattle.st_disk.proofs.DeviceCalls.{at_first, settled_seen}
use Rattle.st_records.specs.declared.version.Form.{Form}
use Rattle.st_records.specs.declared.record.Record.{Record}
use Rattle.st_file.specs.Batch.{framed_in, FillBatchIn}
use Rattle.st_file.specs.Side.{HoldsUpToIn}
use Rattle.st_file.specs.Gated.{IsReady, IsClosedOrOpen, IsOpened, EndsClosed}
use Rattle.st_file.specs.Grown.{HoldsWithOrWithoutIn}
use Rattle.st_file.proofs.LogLemmas.{holds_closed, holds_open}

-- the text of a batch ends in a closed gate
pub ends_closed : (form : Form) (text : List ℕ) (rs : List Record) → text ≡ framed_in form rs ++ 0 ∷ [] → EndsClosed text
ends_closed form text rs is = record { front = framed_in form rs; ends = is }

-- where the gate is closed or open before a batch's text, the side holds the records before or the batch's too
pub holds_either : {s text : List ℕ} {form written : Form} {generation end : ℕ} {held rs : List Record} → HoldsUpToIn s form generation held end → form ≡ written → FillBatchIn written false rs → text ≡ framed_in written rs ++ 0 ∷ []
    → (x : List ℕ) → IsClosedOrOpen (take end s) text x → HoldsWithOrWithoutIn form generation held rs x
holds_either {s} {text} {form} {written} {generation} {end} {held} {rs} holds same fills is x (inl closed) = inl (end, holds_closed s x form generation end held holds closed)
holds_either {s} {text} {form} {written} {generation} {end} {held} {rs} holds same fills is x (inr opened) =
    let own_fills = subst (λ (f : Form). FillBatchIn f false rs) (sym same) fills in
    let own_text : text ≡ framed_in form rs ++ 0 ∷ [] = is ∙ ap (λ (f : Form). framed_in f rs ++ 0 ∷ []) (sym same) in
    inr (end + length text, holds_open s x text form generation end held rs holds own_fills own_text opened)

pub grown_by : {side : Which} {away : UnsyncedWrites} {m0 m1 : Moments} {s text : List ℕ} {form written : Form} {generation end : ℕ} {held rs : List Record} → HoldsUpToIn s form generation held end → form ≡ written → FillBatchIn written false rs
    → text ≡ framed_in written rs ++ 0 ∷ [] → Throughout m0 m1 (SideHas side away (IsClosedOrOpen (take end s) text)) → Throughout m0 m1 (SideHas side away (HoldsWithOrWithoutIn form generation held rs))
grown_by holds same fills is gated = throughout_map gated (λ sides has. side_map sides (holds_either holds same fills is) has)

-- before the first call the side holds the records before
pub not_grown : {side : Which} {m0 : Moments} {s : List ℕ} {form : Form} {generation end : ℕ} {held : List Record} (rs : List Record) → IsReady s (writes_of side (now m0)) end → HoldsUpToIn s form generation held end
    → Throughout m0 m0 (SideHas side (writes_of (other side) (now m0)) (HoldsWithOrWithoutIn form generation held rs))
not_grown {side} {m0} {s} {form} {generation} {end} {held} rs ready holds =
    at_first m0 (λ x image. inl (end, subst (λ (y : List ℕ). HoldsUpToIn y form generation held end) (sym (settled_seen ready.on_disk image)) holds))

-- after the last one it holds the batch's too
pub grown : {s text seen : List ℕ} {writes : UnsyncedWrites} {form written : Form} {generation end later : ℕ} {held rs : List Record} → HoldsUpToIn s form generation held end → form ≡ written → FillBatchIn written false rs
    → text ≡ framed_in written rs ++ 0 ∷ [] → IsOpened (take end s) text seen writes → later ≡ end + length text → HoldsUpToIn seen form generation (held ++ rs) later
grown {s} {text} {seen} {writes} {form} {written} {generation} {end} {later} {held} {rs} holds same fills is opened place =
    let own_fills = subst (λ (f : Form). FillBatchIn f false rs) (sym same) fills in
    let own_text : text ≡ framed_in form rs ++ 0 ∷ [] = is ∙ ap (λ (f : Form). framed_in f rs ++ 0 ∷ []) (sym same) in
    subst (λ (n : ℕ). HoldsUpToIn seen form generation (held ++ rs) n) (sym place) (holds_open s seen text form generation end held rs holds own_fills own_text opened.opened)

-- no records add nothing
pub grown_by_none : {s : List ℕ} {form : Form} {generation end : ℕ} {held : List Record} (rs : List Record) → length rs ≡ 0 → HoldsUpToIn s form generation held end → HoldsUpToIn s form generation (held ++ rs) end
grown_by_none {s} {form} {generation} {end} {held} rs none holds =
    let same : held ≡ held ++ rs = sym (append-nil held) ∙ ap (λ (y : List Record). held ++ y) (sym (nil_from_length rs none)) in
    subst (λ (h : List Record). HoldsUpToIn s form generation h end) same holds

-- a refusal passed on, in an answer of another type
pub same_refusal : {S T E P : Type 0} (f g : E) → (IsErrOf {T = S} (Err f) g ↔ P) → IsErrOf {T = T} (Err f) g ↔ P
same_refusal {S} {T} {E} f g iff =
    let told : E → Result S E = λ h. Err h in
    let tells : E → Result T E = λ h. Err h in
    (λ e. let same : f ≡ g = cc in iff.0 (ap told same), λ p. let e = iff.1 p in let same : f ≡ g = cc in ap tells same)
