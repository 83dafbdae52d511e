-- What it means that a good record is read at the front of some bytes.
use Rattle.std.proofs.Common.{◌≡◌, ℕ, ◌+◌, ◌-◌, ◌≤◌, List, ◌++◌, length, take, drop, Result, Ok, sym, ap, ◌∙◌, arith}
use Rattle.std.proofs.lemmas.List.{take_at, drop_at, take-append-drop, length-append, length-drop}
use Rattle.st_records.specs.declared.version.Version.{Version}
use Rattle.st_records.specs.declared.version.Form.{Form}
use Rattle.st_records.specs.Forms.{form_of}
use Rattle.st_records.specs.declared.fault.DecodeFault.{DecodeFault}
use Rattle.st_records.specs.declared.fault.DecodeFault.TheVariants.{OutOfMemory, Short, BadKind, Check}
use Rattle.st_records.specs.declared.record.Record.{Record}
use Rattle.st_records.specs.Encoding.{encoding, encoding_in}
use Rattle.st_records.specs.Limits.{IsGood, IsGoodIn, EncodesIn}
use Rattle.st_records.specs.Reading.{Fails, record_at, good_at}
use Rattle.st_records.proofs.Fields.{IsBytes, ok_is}
use Rattle.st_records.proofs.Records.{record_reads, good_reads}

-- a record that was read, by the bytes that are left
pub record IsRead (form : Form) (bytes rest : List ℕ) (r : Record) (n : ℕ) : Type 0 where
  pub shorter : length rest ≤ length bytes
  pub within : n ≤ length bytes
  pub front : EncodesIn form r (take n bytes)
  pub back : drop n bytes ≡ rest

pub read_is : (form : Form) (bytes rest : List ℕ) (r : Record) → IsBytes bytes → good_at form bytes ≡ Ok (r, rest) → IsRead form bytes rest r (length bytes - length rest)
read_is form bytes rest r fits e =
    let t = (good_reads form).takes bytes (r, rest) fits e in
    let len : length bytes ≡ length (encoding_in form r) + length rest = ap length t.0.parts ∙ length-append (encoding_in form r) rest in
    let n : length (encoding_in form r) ≡ length bytes - length rest = omega arith in
    record {
      shorter = omega arith;
      within = omega arith;
      front = record { good = t.1; bytes_are = ap (take (length bytes - length rest)) t.0.parts ∙ take_at (encoding_in form r) rest (length bytes - length rest) n };
      back = ap (drop (length bytes - length rest)) t.0.parts ∙ drop_at (encoding_in form r) rest (length bytes - length rest) n;
    }

-- the bytes of a record that was read, good or not
pub record_is : (form : Form) (bytes rest : List ℕ) (r : Record) → IsBytes bytes → record_at form bytes ≡ Ok (r, rest) → length bytes ≡ length (encoding_in form r) + length rest
record_is form bytes rest r fits e =
    let t = (record_reads form).takes bytes (r, rest) fits e in
    ap length t.0.parts ∙ length-append (encoding_in form r) rest

-- a good record that stands at the front is read
pub is_read : (form : Form) (bytes : List ℕ) (r : Record) (n : ℕ) → EncodesIn form r (take n bytes) → good_at form bytes ≡ Ok (r, drop n bytes)
is_read form bytes r n e =
    let whole : bytes ≡ encoding_in form r ++ drop n bytes = sym (take-append-drop n bytes) ∙ ap (λ (x : List ℕ). x ++ drop n bytes) e.bytes_are in
    ap (good_at form) whole ∙ (good_reads form).again r (drop n bytes) e.good

abbrev answered : Record → ℕ → Result (Record × ℕ) DecodeFault
answered r n = Ok (r, n)

-- it is the one that was read
pub same_read : (form : Form) (bytes rest : List ℕ) (r s : Record) (n : ℕ) → n ≤ length bytes → good_at form bytes ≡ Ok (r, rest) → good_at form bytes ≡ Ok (s, drop n bytes) → answered s n ≡ answered r (length bytes - length rest)
same_read form bytes rest r s n within read stands =
    let both = ok_is (s, drop n bytes) (r, rest) (sym stands ∙ read) in
    let left : length (drop n bytes) ≡ length rest = ap (λ (x : Record × List ℕ). length x.1) both in
    let len : n ≡ length bytes - length rest = omega (arith, length-drop n bytes) in
    ap (λ (x : Record × List ℕ). answered x.0 n) both ∙ ap (λ (k : ℕ). answered r k) len

-- where it stands, no fault but want of memory is met
pub no_fault : (form : Form) (f : DecodeFault) (bytes : List ℕ) (x : Record × List ℕ) (y : Record × ℕ) → Fails f (good_at form bytes) → good_at form bytes ≡ Ok x → Fails {Y = Record × ℕ} f (Ok y)
no_fault form OutOfMemory bytes x y failed read = tt
no_fault form Short bytes x y failed read = absurd cc
no_fault form BadKind bytes x y failed read = absurd cc
no_fault form (Check fault) bytes x y failed read = absurd cc

-- the front of some bytes is the encoding_in of one good record at most
pub one_encoding_in_lem : (form : Form) (r s : Record) (x y : List ℕ) → IsGoodIn form r → IsGoodIn form s → encoding_in form r ++ x ≡ encoding_in form s ++ y → (r ≡ s) × (x ≡ y)
one_encoding_in_lem form r s x y r_good s_good e =
    let both = ok_is (r, x) (s, y) (sym ((good_reads form).again r x r_good) ∙ ap (good_at form) e ∙ (good_reads form).again s y s_good) in
    (ap (λ (z : Record × List ℕ). z.0) both, ap (λ (z : Record × List ℕ). z.1) both)

pub one_encoding_lem : (version : Version) (r s : Record) (x y : List ℕ) → IsGood version r → IsGood version s → encoding version r ++ x ≡ encoding version s ++ y → (r ≡ s) × (x ≡ y)
one_encoding_lem version = one_encoding_in_lem (form_of version)
