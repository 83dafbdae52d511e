-- What a side holds after more was put behind its closed gate.
use Rattle.std.proofs.Common.{◌≡◌, ℕ, ◌+◌, ◌≤◌, Bool, true, false, List, [], ◌∷◌, ◌++◌, length, take, get_or, refl, sym, ap, ◌∙◌, arith, append_assoc}
use Rattle.std.proofs.lemmas.List.{length-append, take_at, length-take-le, get_or_at}
use Rattle.std.specs.List.{AllByRecursion}
use Rattle.st_disk.specs.Crash.{UnsyncedWrites, settled}
use Rattle.st_records.specs.declared.version.Form.{Form}
use Rattle.st_records.specs.declared.record.Record.{Record}
use Rattle.st_file.specs.Layout.{header_text_in}
use Rattle.st_file.specs.Batch.{framed_in, may_stand, FillBatchIn, Batch, batch_encoding_in, text_of_in, IsBatchIn}
use Rattle.st_file.specs.Side.{ReachesIn, HoldsUpToIn, is_none}
use Rattle.st_file.specs.Gated.{IsReady, IsClosedBehind, IsOpenBehind}
use Rattle.st_file.proofs.LayoutLemmas.{HasHeader-of}
use Rattle.st_file.proofs.SideLemmas.{Reaches-more, records_of-more}

-- what stands before the closed gate of a side: its header and its batches
front_is : (s : List ℕ) (form : Form) (generation end : ℕ) (bs : List Batch) (after : List ℕ) (reached : ReachesIn s form generation bs (0 ∷ after)) → end + length (0 ∷ after) ≡ length s
    → take end s ≡ reached.header.named.gate ∷ (header_text_in form generation ++ text_of_in form bs)
front_is s form generation end bs after reached place =
    let gate = reached.header.named.gate in
    let front = gate ∷ (header_text_in form generation ++ text_of_in form bs) in
    let whole : s ≡ front ++ 0 ∷ after = reached.header.named.text ∙ ap (λ (y : List ℕ). gate ∷ y) (sym (append_assoc (header_text_in form generation) (text_of_in form bs) (0 ∷ after))) in
    let len : length front ≡ end = omega (arith, place, ap length whole, length-append front (0 ∷ after)) in
    ap (take end) whole ∙ take_at front (0 ∷ after) end len

-- whatever else begins so reaches as far
reaches_by_front : (s x rest : List ℕ) (form : Form) (generation end : ℕ) (bs : List Batch) (after : List ℕ) → ReachesIn s form generation bs (0 ∷ after) → end + length (0 ∷ after) ≡ length s → x ≡ take end s ++ rest → ReachesIn x form generation bs rest
reaches_by_front s x rest form generation end bs after reached place e =
    let gate = reached.header.named.gate in
    let begins : x ≡ gate ∷ (header_text_in form generation ++ (text_of_in form bs ++ rest)) =
    e ∙ ap (λ (y : List ℕ). y ++ rest) (front_is s form generation end bs after reached place) ∙ ap (λ (y : List ℕ). gate ∷ y) (append_assoc (header_text_in form generation) (text_of_in form bs) rest) in
    record {
      allowed = reached.allowed;
      header = HasHeader-of x form generation gate (text_of_in form bs ++ rest) reached.header.named.is_open reached.header.some reached.header.fits begins;
    }

within : (s after : List ℕ) (end : ℕ) → end + length (0 ∷ after) ≡ length s → end ≤ length s
within s after end place = omega (arith, place)

-- what has the same front and a closed gate behind it holds the same records
pub holds_closed : (s x : List ℕ) (form : Form) (generation end : ℕ) (held : List Record) → HoldsUpToIn s form generation held end → IsClosedBehind (take end s) x → HoldsUpToIn x form generation held end
holds_closed s x form generation end held holds closed = record {
  batches = holds.batches;
  after = closed.rest;
  reached = reaches_by_front s x (0 ∷ closed.rest) form generation end holds.batches holds.after holds.reached holds.place closed.bytes;
  in_order = holds.in_order;
  place = omega (arith, ap length closed.bytes, length-append (take end s) (0 ∷ closed.rest), length-take-le end s (within s holds.after end holds.place));
}

-- a batch that may stand later on a side may stand there as its first too
may_be_first : (rs : List Record) → AllByRecursion (λ r. may_stand true r ≡ true) rs
may_be_first [] = tt
may_be_first (r ∷ rs) = (refl, may_be_first rs)

pub FillBatch-any : (form : Form) (rs : List Record) (first : Bool) → FillBatchIn form false rs → FillBatchIn form first rs
FillBatch-any form rs true fills = record { some = fills.some; good = fills.good; allowed = may_be_first rs; short = fills.short }
FillBatch-any form rs false fills = fills

-- what has the same front and behind it an open gate and a batch's text holds the batch's records too
pub holds_open : (s x text : List ℕ) (form : Form) (generation end : ℕ) (held rs : List Record) → HoldsUpToIn s form generation held end → FillBatchIn form false rs → text ≡ framed_in form rs ++ 0 ∷ [] → IsOpenBehind (take end s) text x
    → HoldsUpToIn x form generation (held ++ rs) (end + length text)
holds_open s x text form generation end held rs holds fills text_is opened =
    let b : Batch = record { gate = opened.gate; records = rs } in
    let bs = holds.batches in
    let front = take end s in
    let is : IsBatchIn form (is_none bs) b = record { is_open = opened.is_open; filled = FillBatch-any form rs (is_none bs) fills } in
    let cut : opened.gate ∷ (text ++ opened.rest) ≡ batch_encoding_in form b ++ 0 ∷ opened.rest =
    ap (λ (y : List ℕ). opened.gate ∷ (y ++ opened.rest)) text_is ∙ ap (λ (y : List ℕ). opened.gate ∷ y) (append_assoc (framed_in form rs) (0 ∷ []) opened.rest) in
    let reached = reaches_by_front s x (opened.gate ∷ (text ++ opened.rest)) form generation end bs holds.after holds.reached holds.place opened.bytes in
    record {
      batches = bs ++ b ∷ [];
      after = opened.rest;
      reached = Reaches-more x form generation bs b (opened.gate ∷ (text ++ opened.rest)) (0 ∷ opened.rest) reached is cut;
      in_order = ap (λ (y : List Record). y ++ rs) holds.in_order ∙ sym (records_of-more bs b);
      place =
          omega (arith, ap length opened.bytes, length-append front (opened.gate ∷ (text ++ opened.rest)), length-append text opened.rest, length-take-le end s (within s holds.after end holds.place));
    }

-- a side that holds records and is on the disk is ready for a batch
pub ready_to_grow : (s : List ℕ) (writes : UnsyncedWrites) (form : Form) (generation end : ℕ) (held : List Record) → HoldsUpToIn s form generation held end → writes ≡ settled s → IsReady s writes end
ready_to_grow s writes form generation end held holds on_disk =
    let gate = holds.reached.header.named.gate in
    let front = gate ∷ (header_text_in form generation ++ text_of_in form holds.batches) in
    let whole : s ≡ front ++ 0 ∷ holds.after =
    holds.reached.header.named.text ∙ ap (λ (y : List ℕ). gate ∷ y) (sym (append_assoc (header_text_in form generation) (text_of_in form holds.batches) (0 ∷ holds.after))) in
    let len : length front ≡ end = omega (arith, holds.place, ap length whole, length-append front (0 ∷ holds.after)) in
    record {
      on_disk = on_disk;
      within = omega (arith, holds.place);
      closed = ap (λ (y : List ℕ). get_or y end 0) whole ∙ get_or_at front 0 holds.after 0 end len;
    }
