-- The bytes of a side are read in one way at most.
use Rattle.std.specs.Prelude.{IfSome}
use Rattle.std.proofs.Common.{◌≡◌, ◌≢◌, ℕ, zero, suc, ◌+◌, ◌-◌, ◌<◌, ◌^◌, rules, tests, Bool, true, false, cond, eqb, ltb, List, [], ◌∷◌, ◌++◌, length, take, drop, Option, Some, None, refl, sym, ap, subst, ◌∙◌, arith, inl, inr}
use Rattle.std.proofs.lemmas.Bool.{le-ltb, ne_eqb}
use Rattle.std.proofs.lemmas.List.{take_at, drop_at, length-append}
use Rattle.std.specs.Int.{Width, w16, w64, byte_len, to_le_bytes, from_le_bytes}
use Rattle.st_disk.specs.declared.which.Which.{Which}
use Rattle.st_records.specs.declared.version.Version.{Version}
use Rattle.st_records.specs.declared.version.Version.TheVariants as versions
use Rattle.st_records.specs.declared.version.Form.{Form}
use Rattle.st_records.specs.declared.version.Form.TheVariants as forms
use Rattle.st_records.specs.declared.record.Record.{Record}
use Rattle.st_file.specs.declared.fault.OpenFault.{OpenFault}
use Rattle.st_file.specs.declared.fault.OpenFault.TheVariants as faults
use Rattle.st_file.specs.Layout.{version_number_in, IsReadIn, IsUnknownVersionIn, IsNamed}
use Rattle.st_file.specs.Batch.{Batch, text_of_in, records_of}
use Rattle.st_file.specs.Side.{IsVoid, ReachesIn, HoldsUpToIn, IsForeign, HasOtherVersionIn, LacksGenerationIn, IsStuckIn, is_none, IsBrokenIn, IsDamagedAtIn, IsRefusedIn, ReadingIn, blank_in, holding_in, refused_in, ReadsIn, Reading, blank, holding, refused, reading_in, Reads}
use Rattle.st_file.proofs.LayoutLemmas.{old_is_read}
use Rattle.st_file.proofs.FrameLemmas.{IsWide, wide16, wide64}
use Rattle.st_file.proofs.WalkLemmas.{IsEnd, IsEnd-closed, IsEnd-stuck, first_after-true, reading_from, Walks, one_end}

-- ---- the beginning: void, no state file, or named

data Beginning : Type 0 where
  empty : Beginning
  foreign : Beginning
  named : List ℕ → Beginning

abbrev BeginsAs : List ℕ → Beginning → Type 0
BeginsAs x empty = IsVoid x
BeginsAs x foreign = IsForeign x
BeginsAs x (named rest) = IsNamed x rest

named_is_filled : (x rest : List ℕ) → IsNamed x rest → IsVoid x → ⊥
named_is_filled x rest name void =
    let closed : name.gate ≡ 0 = subst IsVoid name.text void in
    absurd (omega (arith, closed, name.is_open))

same_rest : (x rest after : List ℕ) → IsNamed x rest → IsNamed x after → rest ≡ after
same_rest x rest after one two = ap (drop 9) (sym one.text ∙ two.text)

one_beginning : (x : List ℕ) (b c : Beginning) → BeginsAs x b → BeginsAs x c → b ≡ c
one_beginning x empty empty p q = refl
one_beginning x empty foreign p q = absurd (q.filled p)
one_beginning x empty (named rest) p q = absurd (named_is_filled x rest q p)
one_beginning x foreign empty p q = absurd (p.filled q)
one_beginning x foreign foreign p q = refl
one_beginning x foreign (named rest) p q = absurd (p.unnamed rest q)
one_beginning x (named rest) empty p q = absurd (named_is_filled x rest p q)
one_beginning x (named rest) foreign p q = absurd (q.unnamed rest p)
one_beginning x (named rest) (named after) p q = ap named (same_rest x rest after p q)

-- ---- behind the name: the version and the generation

data Header : Type 0 where
  no_version : Header
  version : ℕ → Header
  no_generation : Header
  whole : Form → ℕ → List ℕ → Header

unfoldable number_at : Width → List ℕ → Option (ℕ × List ℕ)
number_at w bytes = cond (ltb (length bytes) (byte_len w)) None (Some (from_le_bytes w (take (byte_len w) bytes), drop (byte_len w) bytes))

number_at-short : (w : Width) (bytes : List ℕ) → length bytes < byte_len w → number_at w bytes ≡ None
unfolding number_at
number_at-short w bytes lt =
    let short : ltb (length bytes) (byte_len w) ≡ true = search (rules, tests) in
    rw short refl

number_at-again : (w : Width) (limit : ℕ) → IsWide w limit → (n : ℕ) (rest : List ℕ) → n < limit → number_at w (to_le_bytes w n ++ rest) ≡ Some (n, rest)
unfolding number_at
number_at-again w limit wide n rest lt =
    let len = wide.len n in
    let long : ltb (length (to_le_bytes w n ++ rest)) (byte_len w) ≡ false = le-ltb _ _ (omega (arith, length-append (to_le_bytes w n) rest)) in
    rw (long, take_at (to_le_bytes w n) rest (byte_len w) len, drop_at (to_le_bytes w n) rest (byte_len w) len, wide.back n lt) refl

abbrev behind_generation : Form → Option (ℕ × List ℕ) → Header
behind_generation form None = no_generation
behind_generation form (Some n) = cond (eqb n.0 0) no_generation (whole form n.0 n.1)

-- the form that a version's number stands for, where the version is read
abbrev known_form : (newest : Form) → ℕ → Option Form
known_form newest zero = None
known_form newest (suc zero) = Some forms.Old
known_form forms.Old (suc (suc n)) = None
known_form forms.Plain (suc (suc zero)) = Some forms.Plain
known_form forms.Plain (suc (suc (suc n))) = None
known_form forms.Marked (suc (suc zero)) = Some forms.Plain
known_form forms.Marked (suc (suc (suc zero))) = None
known_form forms.Marked (suc (suc (suc (suc zero)))) = Some forms.Marked
known_form forms.Marked (suc (suc (suc (suc (suc n))))) = None

known_form-number : (newest form : Form) → IsReadIn newest form → known_form newest (version_number_in form) ≡ Some form
known_form-number newest forms.Old is = refl
known_form-number forms.Old forms.Plain is = absurd (omega (arith, is))
known_form-number forms.Old forms.Marked is = absurd (omega (arith, is))
known_form-number forms.Plain forms.Plain is = refl
known_form-number forms.Plain forms.Marked is = absurd (omega (arith, is))
known_form-number forms.Marked forms.Plain is = refl
known_form-number forms.Marked forms.Marked is = refl

known_form-other : (newest : Form) (n : ℕ) → IsUnknownVersionIn newest n → known_form newest n ≡ None
known_form-other newest zero other = refl
known_form-other newest (suc zero) other = absurd (other forms.Old (old_is_read newest) refl)
known_form-other forms.Old (suc (suc n)) other = refl
known_form-other forms.Plain (suc (suc zero)) other = absurd (other forms.Plain (omega arith) refl)
known_form-other forms.Plain (suc (suc (suc n))) other = refl
known_form-other forms.Marked (suc (suc zero)) other = absurd (other forms.Plain (omega arith) refl)
known_form-other forms.Marked (suc (suc (suc zero))) other = refl
known_form-other forms.Marked (suc (suc (suc (suc zero)))) other = absurd (other forms.Marked (omega arith) refl)
known_form-other forms.Marked (suc (suc (suc (suc (suc n))))) other = refl

-- what follows a version's number, by the form that it stands for
abbrev by_version_number : Option Form → ℕ → List ℕ → Header
by_version_number None n rest = version n
by_version_number (Some form) n rest = behind_generation form (number_at w64 rest)

abbrev behind_version : (newest : Form) → Option (ℕ × List ℕ) → Header
behind_version newest None = no_version
behind_version newest (Some n) = by_version_number (known_form newest n.0) n.0 n.1

abbrev header_at : (newest : Form) → List ℕ → Header
header_at newest rest = behind_version newest (number_at w16 rest)

at_no_version : (newest : Form) (rest : List ℕ) → length rest < 2 → header_at newest rest ≡ no_version
at_no_version newest rest lt = ap (behind_version newest) (number_at-short w16 rest lt)

at_version : (newest : Form) (n : ℕ) (rest : List ℕ) → n < 2 ^ 16 → IsUnknownVersionIn newest n → header_at newest (to_le_bytes w16 n ++ rest) ≡ version n
at_version newest n rest lt other =
    ap (behind_version newest) (number_at-again w16 (2 ^ 16) wide16 n rest lt) ∙ ap (λ (o : Option Form). by_version_number o n rest) (known_form-other newest n other)

small_version : (form : Form) → version_number_in form < 2 ^ 16
small_version forms.Old = omega arith
small_version forms.Plain = omega arith
small_version forms.Marked = omega arith

at_known : (newest form : Form) → IsReadIn newest form → (rest : List ℕ) → header_at newest (to_le_bytes w16 (version_number_in form) ++ rest) ≡ behind_generation form (number_at w64 rest)
at_known newest form is rest =
    ap (behind_version newest) (number_at-again w16 (2 ^ 16) wide16 (version_number_in form) rest (small_version form)) ∙ ap (λ (o : Option Form). by_version_number o (version_number_in form) rest) (known_form-number newest form is)

at_short : (newest form : Form) → IsReadIn newest form → (rest : List ℕ) → length rest < 8 → header_at newest (to_le_bytes w16 (version_number_in form) ++ rest) ≡ no_generation
at_short newest form is rest lt = at_known newest form is rest ∙ ap (behind_generation form) (number_at-short w64 rest lt)

at_zero : (newest form : Form) → IsReadIn newest form → (rest : List ℕ) → header_at newest (to_le_bytes w16 (version_number_in form) ++ (to_le_bytes w64 0 ++ rest)) ≡ no_generation
at_zero newest form is rest = at_known newest form is (to_le_bytes w64 0 ++ rest) ∙ ap (behind_generation form) (number_at-again w64 (2 ^ 64) wide64 0 rest (omega arith))

at_whole : (newest form : Form) → IsReadIn newest form → (n : ℕ) (rest : List ℕ) → 0 < n → n < 2 ^ 64 → header_at newest (to_le_bytes w16 (version_number_in form) ++ (to_le_bytes w64 n ++ rest)) ≡ whole form n rest
at_whole newest form is n rest some lt =
    let other : n ≢ 0 = omega arith in
    at_known newest form is (to_le_bytes w64 n ++ rest) ∙ ap (behind_generation form) (number_at-again w64 (2 ^ 64) wide64 n rest lt) ∙ ap (λ (b : Bool). cond b no_generation (whole form n rest)) (ne_eqb n 0 other)

-- ---- a reading by its beginning, its header and its batches

abbrev GoesOn : Which → ℕ → Header → ReadingIn → Type 0
GoesOn side len no_version r = r ≡ refused_in (faults.Damaged side 9)
GoesOn side len (version n) r = r ≡ refused_in (faults.UnknownVersion side n)
GoesOn side len no_generation r = r ≡ refused_in (faults.Damaged side 11)
GoesOn side len (whole form generation rest) r = Walks form side len generation rest r

one_goes_on : (side : Which) (len : ℕ) (h : Header) (r s : ReadingIn) → GoesOn side len h r → GoesOn side len h s → r ≡ s
one_goes_on side len no_version r s p q = p ∙ sym q
one_goes_on side len (version n) r s p q = p ∙ sym q
one_goes_on side len no_generation r s p q = p ∙ sym q
one_goes_on side len (whole form generation rest) r s p q = one_end form side len generation rest r s p q

abbrev Begins : (newest : Form) → Which → ℕ → Beginning → ReadingIn → Type 0
Begins newest side len empty r = r ≡ blank_in
Begins newest side len foreign r = r ≡ refused_in (faults.NotState side)
Begins newest side len (named rest) r = GoesOn side len (header_at newest rest) r

one_begins : (newest : Form) (side : Which) (len : ℕ) (b : Beginning) (r s : ReadingIn) → Begins newest side len b r → Begins newest side len b s → r ≡ s
one_begins newest side len empty r s p q = p ∙ sym q
one_begins newest side len foreign r s p q = p ∙ sym q
one_begins newest side len (named rest) r s p q = one_goes_on side len (header_at newest rest) r s p q

record IsReadBy (newest : Form) (side : Which) (x : List ℕ) (r : ReadingIn) : Type 0 where
  beginning : Beginning
  begins_as : BeginsAs x beginning
  follows_on : Begins newest side (length x) beginning r

one_by : (newest : Form) (side : Which) (x : List ℕ) (r s : ReadingIn) → IsReadBy newest side x r → IsReadBy newest side x s → r ≡ s
one_by newest side x r s p q =
    let same = one_beginning x p.beginning q.beginning p.begins_as q.begins_as in
    let P : Beginning → Type 0 = λ b. Begins newest side (length x) b r in
    one_begins newest side (length x) q.beginning r s (subst P same p.follows_on) q.follows_on

by_name : (newest : Form) (side : Which) (x rest : List ℕ) (h : Header) (r : ReadingIn) → IsNamed x rest → header_at newest rest ≡ h → GoesOn side (length x) h r → IsReadBy newest side x r
by_name newest side x rest h r name at goes =
    let P : Header → Type 0 = λ k. GoesOn side (length x) k r in
    record { beginning = named rest; begins_as = name; follows_on = subst P (sym at) goes }

by_walk : (newest : Form) (side : Which) (x : List ℕ) (form : Form) → IsReadIn newest form → (generation : ℕ) (batches : List Batch) (left : List ℕ) (r : ReadingIn) → ReachesIn x form generation batches left → IsEnd form (is_none batches) left → r ≡ reading_from form side (length x) generation batches left → IsReadBy newest side x r
by_walk newest side x form is generation batches left r reached ends gives =
    let P : Bool → Type 0 = λ f. IsEnd form f left in
    by_name newest side x _ (whole form generation (text_of_in form batches ++ left)) r reached.header.named (at_whole newest form is generation (text_of_in form batches ++ left) reached.header.some reached.header.fits) (record {
      batches = batches;
      left = left;
      allowed = reached.allowed;
      text = refl;
      ends = subst P (first_after-true batches) ends;
      gives = gives;
    })

by_holding : (newest : Form) (side : Which) (x : List ℕ) (form : Form) → IsReadIn newest form → (generation : ℕ) (held : List Record) (end : ℕ) → HoldsUpToIn x form generation held end → IsReadBy newest side x (holding_in form generation held end)
by_holding newest side x form is generation held end holds =
    let place : end ≡ length x - length (0 ∷ holds.after) = omega (arith, holds.place) in
    let gives : holding_in form generation held end ≡ holding_in form generation (records_of holds.batches) (length x - length (0 ∷ holds.after)) = cc (holds.in_order, place) in
    by_walk newest side x form is generation holds.batches (0 ∷ holds.after) (holding_in form generation held end) holds.reached (IsEnd-closed form (is_none holds.batches) holds.after) gives

broken_at : (side : Which) (len : ℕ) (form : Form) (generation place : ℕ) (first : Bool) (batches : List Batch) (left : List ℕ) → IsStuckIn form first left → place + length left ≡ len → refused_in (faults.Damaged side place) ≡ reading_from form side len generation batches left
broken_at side len form generation place first batches [] stuck at = let same : place ≡ len = omega arith in cc
broken_at side len form generation place first batches (zero ∷ left) stuck at = absurd (omega (arith, stuck.0))
broken_at side len form generation place first batches (suc gate ∷ left) stuck at = let same : place ≡ len - length (suc gate ∷ left) = omega arith in cc

by_broken : (newest : Form) (side : Which) (x : List ℕ) (place : ℕ) → IsBrokenIn newest x place → IsReadBy newest side x (refused_in (faults.Damaged side place))
by_broken newest side x place broken =
    by_walk newest side x broken.form broken.is_read broken.generation broken.batches broken.rest (refused_in (faults.Damaged side place)) broken.reached (IsEnd-stuck broken.form (is_none broken.batches) broken.rest broken.stuck)
    (broken_at side (length x) broken.form broken.generation place (is_none broken.batches) broken.batches broken.rest broken.stuck broken.at)

by_generation : (newest : Form) (side : Which) (x : List ℕ) → LacksGenerationIn newest x → IsReadBy newest side x (refused_in (faults.Damaged side 11))
by_generation newest side x lacks =
    elim lacks.cut [
      | inl lt ↦ by_name newest side x _ no_generation _ lacks.named (at_short newest lacks.form lacks.is_read lacks.rest lt) refl
      | inr zeros ↦ by_name newest side x _ no_generation _ lacks.named (ap (λ (r : List ℕ). header_at newest (to_le_bytes w16 (version_number_in lacks.form) ++ r)) zeros.1 ∙ at_zero newest lacks.form lacks.is_read zeros.0) refl
    ]

by_damage : (newest : Form) (side : Which) (x : List ℕ) (place : ℕ) → IsDamagedAtIn newest x place → IsReadBy newest side x (refused_in (faults.Damaged side place))
by_damage newest side x place (inl p) =
    let P : ℕ → Type 0 = λ n. IsReadBy newest side x (refused_in (faults.Damaged side n)) in
    subst P (sym p.0) (by_name newest side x p.1.rest no_version (refused_in (faults.Damaged side 9)) p.1.named (at_no_version newest p.1.rest p.1.cut) refl)
by_damage newest side x place (inr (inl p)) =
    let P : ℕ → Type 0 = λ n. IsReadBy newest side x (refused_in (faults.Damaged side n)) in
    subst P (sym p.0) (by_generation newest side x p.1)
by_damage newest side x place (inr (inr broken)) = by_broken newest side x place broken

by_version : (newest : Form) (side : Which) (x : List ℕ) (n : ℕ) → HasOtherVersionIn newest x n → IsReadBy newest side x (refused_in (faults.UnknownVersion side n))
by_version newest side x n has = by_name newest side x (to_le_bytes w16 n ++ has.rest) (version n) (refused_in (faults.UnknownVersion side n)) has.named (at_version newest n has.rest has.fits has.other) refl

by_refusal : (newest : Form) (side : Which) (x : List ℕ) (fault : OpenFault) → IsRefusedIn newest side x fault → IsReadBy newest side x (refused_in fault)
by_refusal newest side x (faults.NotState s) p =
    let P : Which → Type 0 = λ w. IsReadBy newest side x (refused_in (faults.NotState w)) in
    subst P (sym p.0) (record { beginning = foreign; begins_as = p.1; follows_on = refl })
by_refusal newest side x (faults.UnknownVersion s n) p =
    let P : Which → Type 0 = λ w. IsReadBy newest side x (refused_in (faults.UnknownVersion w n)) in
    subst P (sym p.0) (by_version newest side x n p.1)
by_refusal newest side x (faults.Damaged s place) p =
    let P : Which → Type 0 = λ w. IsReadBy newest side x (refused_in (faults.Damaged w place)) in
    subst P (sym p.0) (by_damage newest side x place p.1)
by_refusal newest side x faults.Device p = absurd p
by_refusal newest side x faults.OutOfMemory p = absurd p
by_refusal newest side x faults.SameGeneration p = absurd p

is_read_by : (newest : Form) (side : Which) (x : List ℕ) (r : ReadingIn) → ReadsIn newest side x r → IsReadBy newest side x r
is_read_by newest side x blank_in p = record { beginning = empty; begins_as = p; follows_on = refl }
is_read_by newest side x (holding_in form generation held end) p = by_holding newest side x form p.0 generation held end p.1
is_read_by newest side x (refused_in fault) p = by_refusal newest side x fault p

-- a side is void, or holds one list of records, or is refused with one fault, and only one of these
pub one_reading_in : (newest : Form) (side : Which) (x : List ℕ) (r s : ReadingIn) → ReadsIn newest side x r → ReadsIn newest side x s → r ≡ s
one_reading_in newest side x r s p q = one_by newest side x r s (is_read_by newest side x r p) (is_read_by newest side x s q)

-- ---- where versions 1 and 2 are read

read_in : (side : Which) (x : List ℕ) (r : Reading) → Reads side x r → ReadsIn forms.Plain side x (reading_in r)
read_in side x blank p = p
read_in side x (holding versions.One generation held end) p = (omega arith, p)
read_in side x (holding versions.Two generation held end) p = (omega arith, p)
read_in side x (refused fault) p = p

-- a reading, again by its form
abbrev version_in : Form → Version
version_in forms.Old = versions.One
version_in forms.Plain = versions.Two
version_in forms.Marked = versions.Two

abbrev reading_back : ReadingIn → Reading
reading_back blank_in = blank
reading_back (holding_in form generation held end) = holding (version_in form) generation held end
reading_back (refused_in fault) = refused fault

back_again : (r : Reading) → reading_back (reading_in r) ≡ r
back_again blank = refl
back_again (holding versions.One generation held end) = refl
back_again (holding versions.Two generation held end) = refl
back_again (refused fault) = refl

pub one_reading : (side : Which) (x : List ℕ) (r s : Reading) → Reads side x r → Reads side x s → r ≡ s
one_reading side x r s p q =
    let same = one_reading_in forms.Plain side x (reading_in r) (reading_in s) (read_in side x r p) (read_in side x s q) in
    sym (back_again r) ∙ ap reading_back same ∙ back_again s

-- so what was answered is the one reading there is
pub IfSome-one : (side : Which) (x : List ℕ) (answered : Option Reading) → IfSome answered (Reads side x) → (r : Reading) → Reads side x r → IfSome answered (λ s. s ≡ r)
IfSome-one side x None found r p = tt
IfSome-one side x (Some s) found r p = one_reading side x s r found p
