-- Reading the records of a body one after another.
use Rattle.std.proofs.Common.{◌≡◌, ◌≢◌, ℕ, ◌+◌, ◌<◌, ◌≤◌, Bool, true, false, MatchBool, eqb, List, [], ◌∷◌, ◌++◌, length, take, Ok, refl, sym, ap, subst, ◌∙◌, append_assoc, arith}
use Rattle.std.proofs.lemmas.List.{take_at, length-append, append-nil}
use Rattle.std.proofs.lemmas.List.Concat.{flat_map-append}
use Rattle.std.proofs.Math.Dec.{eqb-suc-zero}
use Rattle.std.specs.List.{AllByRecursion}
use Rattle.st_records.specs.declared.version.Form.{Form}
use Rattle.st_records.specs.declared.record.Record.{Record}
use Rattle.st_records.specs.declared.fault.DecodeFault.{DecodeFault}
use Rattle.st_records.specs.declared.fault.DecodeFault.TheVariants as decode_faults
use Rattle.st_records.specs.declared.record.Record.TheVariants as records
use Rattle.st_records.specs.Encoding.{string, strings, done_explicit_in, entry_fields_in, number, encoding_in}
use Rattle.st_records.specs.Limits.{IsGoodIn, EncodesIn}
use Rattle.st_records.specs.Faults.{HasWholeTarget}
use Rattle.st_records.specs.Reading.{Fails}
use Rattle.st_records.proofs.Good.{fits_in}
use Rattle.st_records.proofs.Decoding.{one_encoding_in_lem}
use Rattle.st_file.specs.Batch.{body_in, may_stand, IsBodyIn, ComesToTargetIn}
use Rattle.st_file.specs.Sink.{AddsRecords}

-- a decoder that has memory refuses only what no good record begins
fault_refutes : (fault : DecodeFault) (x : Record × ℕ) → (fault ≡ decode_faults.OutOfMemory → ⊥) → Fails fault (Ok x) → ⊥
fault_refutes decode_faults.OutOfMemory x memory h = memory refl
fault_refutes decode_faults.Short x memory h = cc
fault_refutes decode_faults.BadKind x memory h = cc
fault_refutes (decode_faults.Check f) x memory h = cc

pub no_record : (form : Form) (bytes : List ℕ) (fault : DecodeFault) → (fault ≡ decode_faults.OutOfMemory → ⊥)
    → ((r : Record) (n : ℕ) → n ≤ length bytes → EncodesIn form r (take n bytes) → Fails {Y = Record × ℕ} fault (Ok (r, n)))
    → (r : Record) (rest : List ℕ) → IsGoodIn form r → bytes ≢ encoding_in form r ++ rest
no_record form bytes fault memory only r rest good e =
    let front : take (length (encoding_in form r)) bytes ≡ encoding_in form r = rw e (take_at (encoding_in form r) rest (length (encoding_in form r)) refl) in
    let within : length (encoding_in form r) ≤ length bytes = omega (arith, ap length e, length-append (encoding_in form r) rest) in
    fault_refutes fault (r, length (encoding_in form r)) memory (only r (length (encoding_in form r)) within (record { good = good; bytes_are = front }))

-- the records that a body begins with leave the other records
pub record Leaves (form : Form) (seen rs : List Record) (rest : List ℕ) : Type 0 where
  pub others : List Record
  pub split : rs ≡ seen ++ others
  pub text : rest ≡ body_in form others

pub leaves : (form : Form) (seen rs : List Record) (rest : List ℕ) → AllByRecursion (IsGoodIn form) seen → AllByRecursion (IsGoodIn form) rs → length seen ≤ length rs → body_in form seen ++ rest ≡ body_in form rs → Leaves form seen rs rest
leaves form [] rs rest seen_good good le e = record { others = rs; split = refl; text = e }
leaves form (s ∷ seen) [] rest seen_good good le e = absurd (omega arith)
leaves form (s ∷ seen) (r ∷ rs) rest seen_good good le e =
    let regrouped : encoding_in form s ++ (body_in form seen ++ rest) ≡ encoding_in form r ++ body_in form rs = sym (append_assoc (encoding_in form s) (body_in form seen) rest) ∙ e in
    let one = one_encoding_in_lem form s r (body_in form seen ++ rest) (body_in form rs) seen_good.0 good.0 regrouped in
    let w = leaves form seen rs rest seen_good.1 good.1 (omega arith) one.1 in
    record { others = w.others; split = cc (one.0, w.split); text = w.text }

-- so far these records were read of a body, and this is left of it
pub record HasRead (form : Form) (first : Bool) (bytes : List ℕ) (seen : List Record) (count : ℕ) (rest : List ℕ) : Type 0 where
  pub good : AllByRecursion (IsGoodIn form) seen
  pub allowed : AllByRecursion (λ r. may_stand first r ≡ true) seen
  pub counted : length seen ≡ count
  pub text : bytes ≡ body_in form seen ++ rest

-- and a sink has taken them in
pub record HandsOn {X : Type 0} (form : Form) (has_taken : X → List Record → Type 0) (first : Bool) (bytes : List ℕ) (old new : X) (count : ℕ) (rest : List ℕ) : Type 0 where
  pub seen : List Record
  pub read : HasRead form first bytes seen count rest
  pub added : AddsRecords has_taken old new seen

AddsRecords-more : {X : Type 0} (H : X → List Record → Type 0) (old mid new : X) (rs ss : List Record) → AddsRecords H old mid rs → AddsRecords H mid new ss → AddsRecords H old new (rs ++ ss)
AddsRecords-more {X} H old mid new rs ss one two = record {
  after = λ before taken. let P : List Record → Type 0 = λ l. H new l in subst P (append_assoc before rs ss) (two.after (before ++ rs) (one.after before taken));
}

pub AllByRecursion-push : {X : Type 0} (P : X → Type 0) (xs : List X) (x : X) → AllByRecursion P xs → P x → AllByRecursion P (xs ++ x ∷ [])
AllByRecursion-push P [] x all one = (one, tt)
AllByRecursion-push P (y ∷ xs) x all one = (all.0, AllByRecursion-push P xs x all.1 one)

pub body-push : (form : Form) (rs : List Record) (r : Record) → body_in form (rs ++ r ∷ []) ≡ body_in form rs ++ encoding_in form r
body-push form rs r = flat_map-append (encoding_in form) rs (r ∷ []) ∙ ap (λ (x : List ℕ). body_in form rs ++ x) (append-nil (encoding_in form r))

HasRead-more : (form : Form) (first : Bool) (bytes : List ℕ) (seen : List Record) (count : ℕ) (rest after : List ℕ) (r : Record) → HasRead form first bytes seen count rest → IsGoodIn form r → may_stand first r ≡ true → rest ≡ encoding_in form r ++ after
    → HasRead form first bytes (seen ++ r ∷ []) (count + 1) after
HasRead-more form first bytes seen count rest after r read good allowed e = record {
  good = AllByRecursion-push (IsGoodIn form) seen r read.good good;
  allowed = AllByRecursion-push (λ r. may_stand first r ≡ true) seen r read.allowed allowed;
  counted = omega (arith, length-append seen (r ∷ []), read.counted);
  text = read.text ∙ ap (λ (x : List ℕ). body_in form seen ++ x) e ∙ sym (append_assoc (body_in form seen) (encoding_in form r) after) ∙ ap (λ (x : List ℕ). x ++ after) (sym (body-push form seen r));
}

pub HandsOn-more : {X : Type 0} (form : Form) (H : X → List Record → Type 0) (first : Bool) (bytes : List ℕ) (old mid new : X) (count : ℕ) (rest after : List ℕ) (r : Record) → HandsOn form H first bytes old mid count rest → IsGoodIn form r → may_stand first r ≡ true
    → rest ≡ encoding_in form r ++ after → AddsRecords H mid new (r ∷ []) → HandsOn form H first bytes old new (count + 1) after
HandsOn-more {X} form H first bytes old mid new count rest after r on good allowed e taken = record {
  seen = on.seen ++ r ∷ [];
  read = HasRead-more form first bytes on.seen count rest after r on.read good allowed e;
  added = AddsRecords-more H old mid new on.seen (r ∷ []) on.added taken;
}

-- a body of more records goes on with one of them
pub record GoesOn (form : Form) (first : Bool) (rest : List ℕ) : Type 0 where
  pub next : Record
  pub good : IsGoodIn form next
  pub allowed : may_stand first next ≡ true
  pub after : List ℕ
  pub text : rest ≡ encoding_in form next ++ after

AllByRecursion-back : {X : Type 0} (P : X → Type 0) (xs ys : List X) → AllByRecursion P (xs ++ ys) → AllByRecursion P ys
AllByRecursion-back P [] ys all = all
AllByRecursion-back P (x ∷ xs) ys all = AllByRecursion-back P xs ys all.1

goes_on_by : (form : Form) (first : Bool) (rest : List ℕ) (others : List Record) → 0 < length others → AllByRecursion (IsGoodIn form) others → AllByRecursion (λ r. may_stand first r ≡ true) others → rest ≡ body_in form others → GoesOn form first rest
goes_on_by form first rest [] lt good allowed e = absurd (omega arith)
goes_on_by form first rest (r ∷ others) lt good allowed e = record { next = r; good = good.0; allowed = allowed.0; after = body_in form others; text = e }

left_by : (form : Form) (first : Bool) (bytes : List ℕ) (seen : List Record) (count total : ℕ) (rest : List ℕ) (rs : List Record) → HasRead form first bytes seen count rest → count ≤ total → IsBodyIn form first total rs bytes → Leaves form seen rs rest
left_by form first bytes seen count total rest rs read le is = leaves form seen rs rest read.good is.good (omega (arith, read.counted, is.counted)) (sym read.text ∙ is.text)

goes_on : (form : Form) (first : Bool) (bytes : List ℕ) (seen : List Record) (count total : ℕ) (rest : List ℕ) (rs : List Record) → HasRead form first bytes seen count rest → count < total → IsBodyIn form first total rs bytes → GoesOn form first rest
goes_on form first bytes seen count total rest rs read lt is =
    let left = left_by form first bytes seen count total rest rs read (omega arith) is in
    let P : List Record → Type 0 = λ l. AllByRecursion (IsGoodIn form) l in
    let Q : List Record → Type 0 = λ l. AllByRecursion (λ r. may_stand first r ≡ true) l in
    goes_on_by form first rest left.others
    (omega (arith, ap length left.split, length-append seen left.others, read.counted, is.counted))
    (AllByRecursion-back (IsGoodIn form) seen left.others (subst P left.split is.good))
    (AllByRecursion-back (λ r. may_stand first r ≡ true) seen left.others (subst Q left.split is.allowed))
    left.text

-- where no record begins what is left, the body isn't of more records
pub no_body_by_none : (form : Form) (first : Bool) (bytes : List ℕ) (seen : List Record) (count total : ℕ) (rest : List ℕ) → HasRead form first bytes seen count rest → count < total → ((r : Record) (after : List ℕ) → IsGoodIn form r → rest ≢ encoding_in form r ++ after)
    → (rs : List Record) → IsBodyIn form first total rs bytes → ⊥
no_body_by_none form first bytes seen count total rest read lt none rs is =
    let on = goes_on form first bytes seen count total rest rs read lt is in
    none on.next on.after on.good on.text

-- nor where the next record may not stand there
pub no_body_by_kept : (form : Form) (first : Bool) (bytes : List ℕ) (seen : List Record) (count total : ℕ) (rest : List ℕ) (r : Record) (after : List ℕ) → HasRead form first bytes seen count rest → count < total → IsGoodIn form r → rest ≡ encoding_in form r ++ after
    → may_stand first r ≡ false → (rs : List Record) → IsBodyIn form first total rs bytes → ⊥
no_body_by_kept form first bytes seen count total rest r after read lt good e kept rs is =
    let on = goes_on form first bytes seen count total rest rs read lt is in
    let one = one_encoding_in_lem form on.next r on.after after on.good good (sym on.text ∙ e) in
    let same : may_stand first on.next ≡ may_stand first r = ap (may_stand first) one.0 in
    let wrong : true ≡ false = sym on.allowed ∙ same ∙ kept in
    cc

pub no_more : (form : Form) (b : ℕ) (rest : List ℕ) (others : List Record) → b ∷ rest ≡ body_in form others → length others ≡ 0 → ⊥
no_more form b rest [] e z = absurd cc
no_more form b rest (r ∷ others) e z = absurd (omega arith)

something_left : (form : Form) (first : Bool) (bytes : List ℕ) (seen : List Record) (count total : ℕ) (b : ℕ) (rest : List ℕ) → HasRead form first bytes seen count (b ∷ rest) → count ≡ total → (rs : List Record) → IsBodyIn form first total rs bytes → ⊥
something_left form first bytes seen count total b rest read e rs is =
    let left = left_by form first bytes seen count total (b ∷ rest) rs read (omega (arith, e)) is in
    no_more form b rest left.others left.text (omega (arith, ap length left.split, length-append seen left.others, read.counted, is.counted, e))

-- all records were read: the body is theirs where nothing is left, and no body where something is
pub is_whole : {X : Type 0} (form : Form) (H : X → List Record → Type 0) (first : Bool) (bytes : List ℕ) (old new : X) (count total : ℕ) (rest : List ℕ) → HandsOn form H first bytes old new count rest → count ≡ total
    → MatchBool (eqb (length rest) 0) ((rs : List Record) × IsBodyIn form first total rs bytes × AddsRecords H old new rs) ((rs : List Record) → IsBodyIn form first total rs bytes → ⊥)
is_whole {X} form H first bytes old new count total [] on e =
    (on.seen, record { good = on.read.good; allowed = on.read.allowed; counted = on.read.counted ∙ e; text = on.read.text ∙ append-nil (body_in form on.seen) }, on.added)
is_whole {X} form H first bytes old new count total (b ∷ rest) on e = rw eqb-suc-zero (something_left form first bytes on.seen count total b rest on.read e)

-- ---- where memory is wanted

-- a good record has its whole target
target_of_good : (form : Form) (r : Record) (rest : List ℕ) → IsGoodIn form r → HasWholeTarget (encoding_in form r ++ rest)
target_of_good form (records.Begun target) rest good =
    record { value = target; rest = rest; fits = fits_in form (records.Begun target) good; bytes_are = refl; holds = tt }
target_of_good form (records.Done target commands hidden explicit) rest good =
    let behind = strings commands ++ (strings hidden ++ done_explicit_in form explicit) in
    record {
      value = target;
      rest = behind ++ rest;
      fits = (fits_in form (records.Done target commands hidden explicit) good).0;
      bytes_are = append_assoc (string target) behind rest;
      holds = tt;
    }
target_of_good form (records.Failed target status) rest good =
    record {
      value = target;
      rest = number status ++ rest;
      fits = (fits_in form (records.Failed target status) good).0;
      bytes_are = append_assoc (string target) (number status) rest;
      holds = tt;
    }
target_of_good form (records.Kept target known) rest good =
    record {
      value = target;
      rest = entry_fields_in form known ++ rest;
      fits = (fits_in form (records.Kept target known) good).0;
      bytes_are = append_assoc (string target) (entry_fields_in form known) rest;
      holds = tt;
    }

pub target_of_front : (form : Form) (r : Record) (bytes rest : List ℕ) → IsGoodIn form r → bytes ≡ encoding_in form r ++ rest → HasWholeTarget bytes
target_of_front form r bytes rest good e = subst HasWholeTarget (sym e) (target_of_good form r rest good)

-- what is left of a body that was read so far goes on with a whole target
pub comes_to_target : {X : Type 0} (form : Form) (H : X → List Record → Type 0) (first : Bool) (bytes : List ℕ) (old new : X) (count total : ℕ) (rest : List ℕ) → HandsOn form H first bytes old new count rest → count < total → HasWholeTarget rest
    → ComesToTargetIn form first total bytes
comes_to_target {X} form H first bytes old new count total rest on lt target = record {
  before = on.seen;
  good = on.read.good;
  allowed = on.read.allowed;
  fewer = omega (arith, on.read.counted);
  behind = rest;
  parts = on.read.text;
  target = target;
}

-- so does a body of some good records, from its first byte
pub body_comes_to_target : (form : Form) (first : Bool) (rs : List Record) → 0 < length rs → AllByRecursion (IsGoodIn form) rs → ComesToTargetIn form first (length rs) (body_in form rs)
body_comes_to_target form first [] some good = absurd (omega arith)
body_comes_to_target form first (r ∷ rs) some good = record {
  before = [];
  good = tt;
  allowed = tt;
  fewer = some;
  behind = body_in form (r ∷ rs);
  parts = refl;
  target = target_of_good form r (body_in form rs) good.0;
}
