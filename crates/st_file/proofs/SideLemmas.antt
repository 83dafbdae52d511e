-- Going from batch to batch over a side.
use Rattle.std.proofs.Common.{◌≡◌, ◌≢◌, ℕ, ◌-◌, ◌<◌, ◌≤◌, Bool, true, false, List, [], ◌∷◌, ◌++◌, length, get_or, drop, refl, sym, ap, subst, ◌∙◌, append_assoc, arith}
use Rattle.std.proofs.lemmas.List.{append-nil, length-append}
use Rattle.std.proofs.lemmas.List.Concat.{flat_map-append}
use Rattle.st_records.specs.declared.version.Form.{Form}
use Rattle.st_records.specs.declared.record.Record.{Record}
use Rattle.st_file.specs.Layout.{IsReadIn, HasHeaderIn}
use Rattle.st_file.specs.Batch.{body_in, framed_in, FillBatchIn, Batch, batch_encoding_in, text_of_in, IsBatchIn, AreBatchesIn, records_of, IsFramed, ComesToTargetIn}
use Rattle.st_file.specs.Side.{ReachesIn, HoldsUpToIn, IsStuckIn, is_none, IsBrokenIn, ComesToRecordsIn}
use Rattle.st_file.specs.Sink.{AddsRecords}
use Rattle.st_file.proofs.LayoutLemmas.{positive}
use Rattle.st_file.proofs.FrameLemmas.{length-body}
use Rattle.st_file.proofs.BatchLemmas.{body_comes_to_target}

-- a later batch behind later ones
pub AreBatches-later : (form : Form) (bs : List Batch) (b : Batch) → AreBatchesIn form false bs → IsBatchIn form false b → AreBatchesIn form false (bs ++ b ∷ [])
AreBatches-later form [] b all one = (one, tt)
AreBatches-later form (a ∷ bs) b all one = (all.0, AreBatches-later form bs b all.1 one)

-- one more batch behind a side's batches: its first where there are none yet
pub AreBatches-more : (form : Form) (bs : List Batch) (b : Batch) → AreBatchesIn form true bs → IsBatchIn form (is_none bs) b → AreBatchesIn form true (bs ++ b ∷ [])
AreBatches-more form [] b all one = (one, tt)
AreBatches-more form (a ∷ bs) b all one = (all.0, AreBatches-later form bs b all.1 one)

-- the bytes of one more batch stand behind those of the others
pub text_of-more : (form : Form) (bs : List Batch) (b : Batch) → text_of_in form (bs ++ b ∷ []) ≡ text_of_in form bs ++ batch_encoding_in form b
text_of-more form bs b =
    flat_map-append (batch_encoding_in form) bs (b ∷ []) ∙ ap (λ (y : List ℕ). text_of_in form bs ++ y) (append-nil (batch_encoding_in form b))

-- and so do its records
pub records_of-more : (bs : List Batch) (b : Batch) → records_of (bs ++ b ∷ []) ≡ records_of bs ++ b.records
records_of-more bs b =
    flat_map-append (λ (c : Batch). c.records) bs (b ∷ []) ∙ ap (λ (y : List Record). records_of bs ++ y) (append-nil b.records)

-- a side that reaches to a batch reaches behind it
pub Reaches-more : (x : List ℕ) (form : Form) (generation : ℕ) (bs : List Batch) (b : Batch) (rest after : List ℕ) → ReachesIn x form generation bs rest → IsBatchIn form (is_none bs) b → rest ≡ batch_encoding_in form b ++ after → ReachesIn x form generation (bs ++ b ∷ []) after
Reaches-more x form generation bs b rest after reached is cut =
    let regrouped : text_of_in form bs ++ rest ≡ text_of_in form (bs ++ b ∷ []) ++ after =
    ap (λ (y : List ℕ). text_of_in form bs ++ y) cut ∙ sym (append_assoc (text_of_in form bs) (batch_encoding_in form b) after) ∙ ap (λ (y : List ℕ). y ++ after) (sym (text_of-more form bs b)) in
    let R : List ℕ → Type 0 = λ y. HasHeaderIn x form generation y in
    record { allowed = AreBatches-more form bs b reached.allowed is; header = subst R regrouped reached.header }

-- what is left of a side is no longer than the side
pub length-Reaches : (x : List ℕ) (form : Form) (generation : ℕ) (bs : List Batch) (rest : List ℕ) → ReachesIn x form generation bs rest → length rest ≤ length x
length-Reaches x form generation bs rest reached =
    omega (arith, ap length reached.header.named.text, length-append (text_of_in form bs) rest)

-- an open gate with no batch behind it is where reading ends
pub stuck_at : (form : Form) (first : Bool) (rest : List ℕ) → 0 < length rest → get_or rest 0 0 ≢ 0 → ((rs : List Record) (after : List ℕ) → FillBatchIn form first rs → drop 1 rest ≢ framed_in form rs ++ after) → IsStuckIn form first rest
stuck_at form first [] lt opened none = absurd (omega arith)
stuck_at form first (gate ∷ behind) lt opened none = (
  positive gate opened,
  λ b after is e. let cut : behind ≡ framed_in form b.records ++ after = ap (drop 1) e in none b.records after is.filled cut,
)

-- batches were read up to this rest of the side, and a sink has taken in their records
pub record HasWalked {X : Type 0} (has_taken : X → List Record → Type 0) (x : List ℕ) (form : Form) (generation : ℕ) (sink : X) (first : Bool) (rest : List ℕ) : Type 0 where
  pub batches : List Batch
  pub reached : ReachesIn x form generation batches rest
  pub taken : has_taken sink (records_of batches)
  pub stands : first ≡ is_none batches

is_none-push : (bs : List Batch) (b : Batch) → is_none (bs ++ b ∷ []) ≡ false
is_none-push [] b = refl
is_none-push (a ∷ bs) b = refl

-- the front of what is left is its gate
cut_gate : (rest : List ℕ) → 0 < length rest → rest ≡ get_or rest 0 0 ∷ drop 1 rest
cut_gate [] lt = absurd (omega arith)
cut_gate (gate ∷ rest) lt = refl

pub walked_more : {X : Type 0} (H : X → List Record → Type 0) (x : List ℕ) (form : Form) (generation : ℕ) (sink new : X) (first : Bool) (rest after : List ℕ) (rs : List Record) → HasWalked H x form generation sink first rest → 0 < length rest
    → get_or rest 0 0 ≢ 0 → FillBatchIn form first rs → drop 1 rest ≡ framed_in form rs ++ after → AddsRecords H sink new rs → HasWalked H x form generation new false after
walked_more {X} H x form generation sink new first rest after rs walked lt opened filled e added =
    let bs = walked.batches in
    let gate = get_or rest 0 0 in
    let b : Batch = record { gate = gate; records = rs } in
    let F : Bool → Type 0 = λ f. FillBatchIn form f rs in
    let is : IsBatchIn form (is_none bs) b = record { is_open = positive gate opened; filled = subst F walked.stands filled } in
    let cut : rest ≡ batch_encoding_in form b ++ after = cut_gate rest lt ∙ ap (λ (y : List ℕ). gate ∷ y) e in
    let T : List Record → Type 0 = λ l. H new l in
    record {
      batches = bs ++ b ∷ [];
      reached = Reaches-more x form generation bs b rest after walked.reached is cut;
      taken = subst T (sym (records_of-more bs b)) (added.after (records_of bs) walked.taken);
      stands = sym (is_none-push bs b);
    }

-- where none goes on the side is broken
pub broken_here : {X : Type 0} (H : X → List Record → Type 0) (newest : Form) (x : List ℕ) (form : Form) → IsReadIn newest form → (generation : ℕ) (sink : X) (first : Bool) (rest behind : List ℕ) → HasWalked H x form generation sink first rest → 0 < length rest → get_or rest 0 0 ≢ 0
    → behind ≡ drop 1 rest → ((rs : List Record) (after : List ℕ) → FillBatchIn form first rs → behind ≢ framed_in form rs ++ after) → IsBrokenIn newest x (length x - length rest)
broken_here {X} H newest x form is_read generation sink first rest behind walked lt opened cut none =
    let S : Bool → Type 0 = λ f. IsStuckIn form f rest in
    record {
      form = form;
      is_read = is_read;
      generation = generation;
      batches = walked.batches;
      rest = rest;
      reached = walked.reached;
      stuck = subst S walked.stands (stuck_at form first rest lt opened (λ rs after filled e. none rs after filled (cut ∙ e)));
      at = omega (arith, length-Reaches x form generation walked.batches rest walked.reached);
    }

-- where the body of a whole frame behind the open gate that was reached comes to a record, the side does
pub comes_to_records : {X : Type 0} (H : X → List Record → Type 0) (newest : Form) (x : List ℕ) (form : Form) → IsReadIn newest form → (generation : ℕ) (sink : X) (first : Bool) (rest behind : List ℕ) → HasWalked H x form generation sink first rest → 0 < length rest → get_or rest 0 0 ≢ 0
    → behind ≡ drop 1 rest → (frame : IsFramed behind) × ComesToTargetIn form first frame.count frame.text → ComesToRecordsIn newest x
comes_to_records {X} H newest x form is_read generation sink first rest behind walked lt opened cut come =
    let gate = get_or rest 0 0 in
    let R : List ℕ → Type 0 = λ y. ReachesIn x form generation walked.batches y in
    let C : Bool → Type 0 = λ f. ComesToTargetIn form f come.0.count come.0.text in
    record {
      form = form;
      is_read = is_read;
      generation = generation;
      batches = walked.batches;
      gate = gate;
      is_open = positive gate opened;
      behind = behind;
      reached = subst R (cut_gate rest lt ∙ ap (λ (y : List ℕ). gate ∷ y) (sym cut)) walked.reached;
      framed = come.0;
      comes = subst C walked.stands come.1;
    }

-- behind the gate of a batch its frame stands
abbrev frame_of : (form : Form) (first : Bool) (rs : List Record) (rest : List ℕ) → FillBatchIn form first rs → IsFramed (framed_in form rs ++ rest)
frame_of form first rs rest filled = record {
  count = length rs;
  some = filled.some;
  fits = omega (arith, length-body form rs, filled.short);
  text = body_in form rs;
  short = filled.short;
  rest = rest;
  parts = refl;
}

comes_by : (newest : Form) (x : List ℕ) (form : Form) → IsReadIn newest form → (generation : ℕ) (bs : List Batch) (rest : List ℕ) → ReachesIn x form generation bs rest → 0 < length (records_of bs) → ComesToRecordsIn newest x
comes_by newest x form is_read generation [] rest reached some = absurd (omega arith)
comes_by newest x form is_read generation (b ∷ bs) rest reached some =
    let first = reached.allowed.0 in
    let H : List ℕ → Type 0 = λ y. HasHeaderIn x form generation y in
    record {
      form = form;
      is_read = is_read;
      generation = generation;
      batches = [];
      gate = b.gate;
      is_open = first.is_open;
      behind = framed_in form b.records ++ (text_of_in form bs ++ rest);
      reached = record { allowed = tt; header = subst H (append_assoc (batch_encoding_in form b) (text_of_in form bs) rest) reached.header };
      framed = frame_of form true b.records (text_of_in form bs ++ rest) first.filled;
      comes = body_comes_to_target form true b.records first.filled.some first.filled.good;
    }

-- a side that holds some records comes to records
pub comes_of_held : (newest : Form) (x : List ℕ) (form : Form) → IsReadIn newest form → (generation : ℕ) (held : List Record) (end : ℕ) → HoldsUpToIn x form generation held end → 0 < length held → ComesToRecordsIn newest x
comes_of_held newest x form is_read generation held end holds some =
    comes_by newest x form is_read generation holds.batches (0 ∷ holds.after) holds.reached (omega (arith, some, ap length holds.in_order))
