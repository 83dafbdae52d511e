-- The batches behind a header, up to a place where none begins, are read off in one way.
use Rattle.std.proofs.Common.{◌≡◌, ◌≢◌, ℕ, zero, suc, ◌-◌, Bool, true, false, List, [], ◌∷◌, ◌++◌, length, drop, refl, sym, ap, subst, ◌∙◌, append_assoc, arith}
use Rattle.st_disk.specs.declared.which.Which.{Which}
use Rattle.st_records.specs.declared.version.Form.{Form}
use Rattle.st_records.specs.declared.record.Record.{Record}
use Rattle.st_file.specs.declared.fault.OpenFault.TheVariants as faults
use Rattle.st_file.specs.Batch.{framed_in, Batch, batch_encoding_in, text_of_in, IsBatchIn, AreBatchesIn, records_of}
use Rattle.st_file.specs.Side.{IsStuckIn, is_none, ReadingIn, holding_in, refused_in}
use Rattle.st_file.proofs.FrameLemmas.{same_records}

-- no batch begins here that may stand here
abbrev pub IsEnd : Form → Bool → List ℕ → Type 0
IsEnd form first rest = (b : Batch) (after : List ℕ) → IsBatchIn form first b → rest ≢ batch_encoding_in form b ++ after

pub IsEnd-closed : (form : Form) (first : Bool) (after : List ℕ) → IsEnd form first (0 ∷ after)
IsEnd-closed form first after b other is e =
    let gate : 0 ≡ b.gate = cc in
    absurd (omega (arith, gate, is.is_open))

pub IsEnd-stuck : (form : Form) (first : Bool) (rest : List ℕ) → IsStuckIn form first rest → IsEnd form first rest
IsEnd-stuck form first [] stuck b after is e = absurd cc
IsEnd-stuck form first (gate ∷ rest) stuck b after is e = stuck.1 b after is e

-- whether what follows these batches is first on its side
abbrev pub first_after : Bool → List Batch → Bool
first_after first [] = first
first_after first (_ ∷ _) = false

first_after-false : (bs : List Batch) → first_after false bs ≡ false
first_after-false [] = refl
first_after-false (_ ∷ _) = refl

pub first_after-true : (bs : List Batch) → is_none bs ≡ first_after true bs
first_after-true [] = refl
first_after-true (_ ∷ _) = refl

pub record SameWalk (bs cs : List Batch) (r s : List ℕ) : Type 0 where
  pub batches_are : bs ≡ cs
  pub rest_is : r ≡ s

ends_later : (form : Form) (bs : List Batch) (r : List ℕ) → IsEnd form false r → IsEnd form (first_after false bs) r
ends_later form bs r ends = let P : Bool → Type 0 = λ f. IsEnd form f r in subst P (sym (first_after-false bs)) ends

same_batch : (b c : Batch) → b.gate ≡ c.gate → b.records ≡ c.records → b ≡ c
same_batch b c gates records =
    let swapped : Batch = record { gate = c.gate; records = b.records } in
    let one : b ≡ swapped = ap (λ (g : ℕ). record { gate = g; records = b.records }) gates in
    let two : swapped ≡ c = ap (λ (rs : List Record). record { gate = c.gate; records = rs }) records in
    one ∙ two

pub one_walk : (form : Form) (first : Bool) (bs cs : List Batch) (r s : List ℕ) → AreBatchesIn form first bs → AreBatchesIn form first cs → IsEnd form (first_after first bs) r → IsEnd form (first_after first cs) s → text_of_in form bs ++ r ≡ text_of_in form cs ++ s → SameWalk bs cs r s
one_walk form first [] [] r s bs_are cs_are r_ends s_ends e = record { batches_are = refl; rest_is = e }
one_walk form first [] (c ∷ cs) r s bs_are cs_are r_ends s_ends e =
    absurd (r_ends c (text_of_in form cs ++ s) cs_are.0 (e ∙ append_assoc (batch_encoding_in form c) (text_of_in form cs) s))
one_walk form first (b ∷ bs) [] r s bs_are cs_are r_ends s_ends e =
    absurd (s_ends b (text_of_in form bs ++ r) bs_are.0 (sym e ∙ append_assoc (batch_encoding_in form b) (text_of_in form bs) r))
one_walk form first (b ∷ bs) (c ∷ cs) r s bs_are cs_are r_ends s_ends e =
    let regrouped : batch_encoding_in form b ++ (text_of_in form bs ++ r) ≡ batch_encoding_in form c ++ (text_of_in form cs ++ s) =
    sym (append_assoc (batch_encoding_in form b) (text_of_in form bs) r) ∙ e ∙ append_assoc (batch_encoding_in form c) (text_of_in form cs) s in
    let gates : b.gate ≡ c.gate = cc in
    let behind : framed_in form b.records ++ (text_of_in form bs ++ r) ≡ framed_in form c.records ++ (text_of_in form cs ++ s) = ap (drop 1) regrouped in
    let same = same_records form first first b.records c.records (text_of_in form bs ++ r) (text_of_in form cs ++ s) bs_are.0.filled cs_are.0.filled behind in
    let later = one_walk form false bs cs r s bs_are.1 cs_are.1 (ends_later form bs r r_ends) (ends_later form cs s s_ends) same.back in
    let one : b ≡ c = same_batch b c gates same.records_are in
    record { batches_are = cc (one, later.batches_are); rest_is = later.rest_is }

-- what is read where the batches end
abbrev pub reading_from : Form → Which → ℕ → ℕ → List Batch → List ℕ → ReadingIn
reading_from form side len generation bs [] = refused_in (faults.Damaged side len)
reading_from form side len generation bs (zero ∷ after) = holding_in form generation (records_of bs) (len - length (0 ∷ after))
reading_from form side len generation bs (suc gate ∷ after) = refused_in (faults.Damaged side (len - length (suc gate ∷ after)))

-- behind a header these bytes are read so
pub record Walks (form : Form) (side : Which) (len generation : ℕ) (rest : List ℕ) (r : ReadingIn) : Type 0 where
  pub batches : List Batch
  pub left : List ℕ
  pub allowed : AreBatchesIn form true batches
  pub text : rest ≡ text_of_in form batches ++ left
  pub ends : IsEnd form (first_after true batches) left
  pub gives : r ≡ reading_from form side len generation batches left

pub one_end : (form : Form) (side : Which) (len generation : ℕ) (rest : List ℕ) (r s : ReadingIn) → Walks form side len generation rest r → Walks form side len generation rest s → r ≡ s
one_end form side len generation rest r s p q =
    let same = one_walk form true p.batches q.batches p.left q.left p.allowed q.allowed p.ends q.ends (sym p.text ∙ q.text) in
    p.gives ∙ ap (λ (bs : List Batch). reading_from form side len generation bs p.left) same.batches_are ∙ ap (reading_from form side len generation q.batches) same.rest_is ∙ sym q.gives
