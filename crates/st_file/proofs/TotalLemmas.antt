-- The bytes of a side are read in one way at least.
use Rattle.std.proofs.Common.{◌≡◌, ◌≢◌, ◌⊎◌, ℕ, zero, suc, ◌-◌, ◌<◌, ◌≤◌, ◌^◌, Bool, true, false, List, [], ◌∷◌, ◌++◌, length, take, drop, refl, sym, ap, ◌∙◌, arith, inl, inr}
use Rattle.std.proofs.lemmas.Bool.{cases_lt}
use Rattle.std.proofs.lemmas.List.{take-append-drop, length-append}
use Rattle.std.proofs.lemmas.Slice.Eq.{bytes_eq-Decides}
use Rattle.std.specs.Int.{w16, w64, to_le_bytes}
use Rattle.std.specs.Str.{bytes_eq}
use Rattle.st_disk.specs.declared.which.Which.{Which}
use Rattle.st_records.specs.declared.version.Version.TheVariants as versions
use Rattle.st_records.specs.declared.version.Form.{Form}
use Rattle.st_records.specs.declared.version.Form.TheVariants as forms
use Rattle.st_records.proofs.Fields.{IsBytes, IsBytes-drop, IsBytes-rest}
use Rattle.st_file.specs.declared.fault.OpenFault.TheVariants as faults
use Rattle.st_file.specs.Layout.{magic, version_number_in, IsReadIn, IsUnknownVersionIn, IsNamed}
use Rattle.st_file.specs.Batch.{framed_in, Batch, batch_encoding_in, IsBatchIn, records_of}
use Rattle.st_file.specs.Side.{ReachesIn, is_none, ReadingIn, blank_in, holding_in, refused_in, ReadsIn, Reading, blank, holding, refused, Reads}
use Rattle.st_file.proofs.LayoutLemmas.{IsNamed-along}
use Rattle.st_file.proofs.FrameLemmas.{wide16, wide64}
use Rattle.st_file.proofs.SideLemmas.{length-Reaches, Reaches-more, stuck_at}
use Rattle.st_file.proofs.DecisionLemmas.{HasNumber, decide_number, HasBatch, LacksBatch, decide_batch}

abbrev HasReadingIn : (newest : Form) → Which → List ℕ → Type 0
HasReadingIn newest side x = (r : ReadingIn) × ReadsIn newest side x r

-- ---- from batch to batch

walk_on : (newest : Form) (side : Which) (x : List ℕ) (form : Form) → IsReadIn newest form → (generation : ℕ) (bs : List Batch) (gate : ℕ) (behind : List ℕ) → ReachesIn x form generation bs (suc gate ∷ behind) → HasBatch form (is_none bs) behind ⊎ LacksBatch form (is_none bs) behind
    → ((b : Batch) (rest : List ℕ) → IsBytes rest → length rest ≤ length behind → ReachesIn x form generation (bs ++ b ∷ []) rest → HasReadingIn newest side x) → HasReadingIn newest side x
walk_on newest side x form is_read generation bs gate behind reached (inl has) later =
    let b : Batch = record { gate = suc gate; records = has.all } in
    let is : IsBatchIn form (is_none bs) b = record { is_open = omega arith; filled = has.filled } in
    let cut : suc gate ∷ behind ≡ batch_encoding_in form b ++ has.rest = ap (λ (y : List ℕ). suc gate ∷ y) has.text in
    later b has.rest has.fits (omega (arith, ap length has.text, length-append (framed_in form has.all) has.rest)) (Reaches-more x form generation bs b (suc gate ∷ behind) has.rest reached is cut)
walk_on newest side x form is_read generation bs gate behind reached (inr none) later =
    let rest : List ℕ = suc gate ∷ behind in (
      refused_in (faults.Damaged side (length x - length rest)),
      (
        refl,
        inr (inr (record {
          form = form;
          is_read = is_read;
          generation = generation;
          batches = bs;
          rest = rest;
          reached = reached;
          stuck = stuck_at form (is_none bs) rest (omega arith) (omega arith) none;
          at = omega (arith, length-Reaches x form generation bs rest reached);
        })),
      ),
    )

-- the fuel is as long as what is left
walk : (newest : Form) (side : Which) (x : List ℕ) (form : Form) → IsReadIn newest form → (generation : ℕ) (fuel : ℕ) (bs : List Batch) (rest : List ℕ) → IsBytes rest → length rest ≤ fuel → ReachesIn x form generation bs rest → HasReadingIn newest side x
walk newest side x form is_read generation fuel bs [] fits le reached = (
  refused_in (faults.Damaged side (length x)),
  (refl, inr (inr (record { form = form; is_read = is_read; generation = generation; batches = bs; rest = []; reached = reached; stuck = tt; at = omega arith }))),
)
walk newest side x form is_read generation fuel bs (zero ∷ after) fits le reached = (
  holding_in form generation (records_of bs) (length x - length (0 ∷ after)),
  (
    is_read,
    record {
      batches = bs;
      after = after;
      reached = reached;
      in_order = refl;
      place = omega (arith, length-Reaches x form generation bs (0 ∷ after) reached);
    },
  ),
)
walk newest side x form is_read generation zero bs (suc gate ∷ behind) fits le reached = absurd (omega arith)
walk newest side x form is_read generation (suc fuel) bs (suc gate ∷ behind) fits le reached =
    walk_on newest side x form is_read generation bs gate behind reached (decide_batch form (is_none bs) behind (IsBytes-rest (suc gate) behind fits))
    (λ b rest rest_fits shorter further. walk newest side x form is_read generation fuel (bs ++ b ∷ []) rest rest_fits (omega (arith, shorter, le)) further)

-- ---- behind the name

-- the numbers of no version
not_zero : (form : Form) → 0 ≢ version_number_in form
not_zero forms.Old e = absurd (omega (arith, e))
not_zero forms.Plain e = absurd (omega (arith, e))
not_zero forms.Marked e = absurd (omega (arith, e))

not_three : (form : Form) → 3 ≢ version_number_in form
not_three forms.Old e = absurd (omega (arith, e))
not_three forms.Plain e = absurd (omega (arith, e))
not_three forms.Marked e = absurd (omega (arith, e))

not_more : (n : ℕ) (form : Form) → suc (suc (suc (suc (suc n)))) ≢ version_number_in form
not_more n forms.Old e = absurd (omega (arith, e))
not_more n forms.Plain e = absurd (omega (arith, e))
not_more n forms.Marked e = absurd (omega (arith, e))

-- the form that a number stands for, where it is read
abbrev IsNumber : (newest : Form) → ℕ → Type 0
IsNumber newest n = (form : Form) × IsReadIn newest form × (n ≡ version_number_in form)

read_or_not : (newest form : Form) → (version_number_in newest < version_number_in form) ⊎ (version_number_in form ≤ version_number_in newest) → IsNumber newest (version_number_in form) ⊎ IsUnknownVersionIn newest (version_number_in form)
read_or_not newest form (inl newer) = inr (λ other is e. absurd (omega (arith, newer, is, e)))
read_or_not newest form (inr is) = inl (form, is, refl)

decide_form : (newest form : Form) → IsNumber newest (version_number_in form) ⊎ IsUnknownVersionIn newest (version_number_in form)
decide_form newest form = read_or_not newest form (cases_lt (version_number_in newest) (version_number_in form))

decide_version : (newest : Form) (n : ℕ) → IsNumber newest n ⊎ IsUnknownVersionIn newest n
decide_version newest zero = inr (λ form is. not_zero form)
decide_version newest (suc zero) = decide_form newest forms.Old
decide_version newest (suc (suc zero)) = decide_form newest forms.Plain
decide_version newest (suc (suc (suc zero))) = inr (λ form is. not_three form)
decide_version newest (suc (suc (suc (suc zero)))) = decide_form newest forms.Marked
decide_version newest (suc (suc (suc (suc (suc n))))) = inr (λ form is. not_more n form)

by_generation : (newest : Form) (side : Which) (x : List ℕ) (form : Form) → IsReadIn newest form → (rest : List ℕ) → IsNamed x (to_le_bytes w16 (version_number_in form) ++ rest) → (g : HasNumber w64 (2 ^ 64) rest) → (0 < g.value) ⊎ (g.value ≤ 0) → HasReadingIn newest side x
by_generation newest side x form is_read rest name g (inl some) =
    let behind = ap (λ (y : List ℕ). to_le_bytes w16 (version_number_in form) ++ y) g.text in
    walk newest side x form is_read g.value (length g.rest) [] g.rest g.fits (omega arith) (record {
      allowed = tt;
      header = record { some = some; fits = g.small; named = IsNamed-along x _ _ name behind };
    })
by_generation newest side x form is_read rest name g (inr none) =
    let zeros : g.value ≡ 0 = omega arith in
    let cut : rest ≡ to_le_bytes w64 0 ++ g.rest = g.text ∙ ap (λ (n : ℕ). to_le_bytes w64 n ++ g.rest) zeros in (
      refused_in (faults.Damaged side 11),
      (refl, inr (inl (refl, record { form = form; is_read = is_read; rest = rest; named = name; cut = inr (g.rest, cut) }))),
    )

by_version : (newest : Form) (side : Which) (x : List ℕ) (form : Form) → IsReadIn newest form → (rest : List ℕ) → IsBytes rest → IsNamed x (to_le_bytes w16 (version_number_in form) ++ rest) → HasReadingIn newest side x
by_version newest side x form is_read rest fits name =
    elim (decide_number w64 (2 ^ 64) wide64 rest fits) [
      | inl short ↦ (
        refused_in (faults.Damaged side 11),
        (refl, inr (inl (refl, record { form = form; is_read = is_read; rest = rest; named = name; cut = inl short }))),
      )
      | inr g ↦ by_generation newest side x form is_read rest name g (cases_lt 0 g.value)
    ]

by_number : (newest : Form) (side : Which) (x rest : List ℕ) → IsNamed x rest → (n : HasNumber w16 (2 ^ 16) rest) → IsNumber newest n.value ⊎ IsUnknownVersionIn newest n.value → HasReadingIn newest side x
by_number newest side x rest name n (inl known) =
    by_version newest side x known.0 known.1 n.rest n.fits
    (IsNamed-along x _ _ name (n.text ∙ ap (λ (k : ℕ). to_le_bytes w16 k ++ n.rest) known.2))
by_number newest side x rest name n (inr other) = (
  refused_in (faults.UnknownVersion side n.value),
  (refl, record { rest = n.rest; named = IsNamed-along x _ _ name n.text; fits = n.small; other = other }),
)

by_name : (newest : Form) (side : Which) (x rest : List ℕ) → IsBytes rest → IsNamed x rest → HasReadingIn newest side x
by_name newest side x rest fits name =
    elim (decide_number w16 (2 ^ 16) wide16 rest fits) [
      | inl short ↦ (
        refused_in (faults.Damaged side 9),
        (refl, inl (refl, record { rest = rest; named = name; cut = short })),
      )
      | inr n ↦ by_number newest side x rest name n (decide_version newest n.value)
    ]

-- ---- the beginning

by_beginning : (newest : Form) (side : Which) (gate b : ℕ) (x : List ℕ) → IsBytes (b ∷ x) → (test : Bool) → (test ≡ true → take 8 (b ∷ x) ≡ magic) → (take 8 (b ∷ x) ≡ magic → test ≡ true) → HasReadingIn newest side (suc gate ∷ b ∷ x)
by_beginning newest side gate b x fits true is so =
    let whole : b ∷ x ≡ magic ++ drop 8 (b ∷ x) = sym (take-append-drop 8 (b ∷ x)) ∙ ap (λ (t : List ℕ). t ++ drop 8 (b ∷ x)) (is refl) in
    by_name newest side (suc gate ∷ b ∷ x) (drop 8 (b ∷ x)) (IsBytes-drop 8 (b ∷ x) fits) (record {
      gate = suc gate;
      is_open = omega arith;
      text = ap (λ (y : List ℕ). suc gate ∷ y) whole;
    })
by_beginning newest side gate b x fits false is so = (
  refused_in (faults.NotState side),
  (
    refl,
    record {
      filled = λ void. absurd (omega (arith, void));
      unnamed = λ rest name.
          let same : take 8 (b ∷ x) ≡ magic = ap (λ (l : List ℕ). take 8 (drop 1 l)) name.text in
          let wrong : false ≡ true = so same in
          cc;
    },
  ),
)

-- a side is void, or holds some records, or is refused with some fault
pub every_reading_in : (newest : Form) (side : Which) (x : List ℕ) → IsBytes x → (r : ReadingIn) × ReadsIn newest side x r
every_reading_in newest side [] fits = (blank_in, tt)
every_reading_in newest side (gate ∷ []) fits = (blank_in, tt)
every_reading_in newest side (zero ∷ b ∷ x) fits = (blank_in, refl)
every_reading_in newest side (suc gate ∷ b ∷ x) fits =
    let decides = bytes_eq-Decides (take 8 (b ∷ x)) magic in
    by_beginning newest side gate b x (IsBytes-rest (suc gate) (b ∷ x) fits) (bytes_eq (take 8 (b ∷ x)) magic) decides.0 decides.1

-- ---- where versions 1 and 2 are read

as_read : (side : Which) (x : List ℕ) (r : ReadingIn) → ReadsIn forms.Plain side x r → (r : Reading) × Reads side x r
as_read side x blank_in p = (blank, p)
as_read side x (holding_in forms.Old generation held end) p = (holding versions.One generation held end, p.1)
as_read side x (holding_in forms.Plain generation held end) p = (holding versions.Two generation held end, p.1)
as_read side x (holding_in forms.Marked generation held end) p = absurd (omega (arith, p.0))
as_read side x (refused_in fault) p = (refused fault, p)

pub every_reading : (side : Which) (x : List ℕ) → IsBytes x → (r : Reading) × Reads side x r
every_reading side x fits = let read = every_reading_in forms.Plain side x fits in as_read side x read.0 read.1
