-- Whether a record, a body, a frame or a batch stands at the front of some bytes: one does, or none does.
use Rattle.std.proofs.Common.{◌≡◌, ◌≢◌, ◌⊎◌, ℕ, zero, suc, ◌<◌, ◌≤◌, ◌^◌, Bool, true, false, List, [], ◌∷◌, ◌++◌, length, take, drop, Result, Ok, Err, refl, sym, ap, ◌∙◌, arith, inl, inr}
use Rattle.std.proofs.lemmas.Bool.{cases_lt}
use Rattle.std.proofs.lemmas.List.{take-append-drop, length-append, length-take}
use Rattle.std.specs.Int.{Width, w32, byte_len, to_le_bytes, from_le_bytes}
use Rattle.st_records.specs.declared.version.Form.{Form}
use Rattle.st_records.specs.declared.record.Record.{Record}
use Rattle.st_records.specs.declared.fault.DecodeFault.{DecodeFault}
use Rattle.st_records.specs.Encoding.{encoding_in, number}
use Rattle.st_records.specs.Limits.{IsGoodIn}
use Rattle.st_records.specs.Reading.{good_at}
use Rattle.st_records.proofs.Fields.{IsBytes, IsBytes-take, IsBytes-drop}
use Rattle.st_records.proofs.Records.{good_reads}
use Rattle.st_records.proofs.Decoding.{one_encoding_in_lem}
use Rattle.st_file.specs.Batch.{body_in, framed_in, may_stand, FillBatchIn, IsBodyIn}
use Rattle.st_file.proofs.BatchLemmas.{HasRead, no_more, no_body_by_none, no_body_by_kept}
use Rattle.st_file.proofs.FrameLemmas.{IsWide, wide32, same_number, no_batch_by_body, no_batch_by_count}

-- ---- a record

record HasFront (form : Form) (bytes : List ℕ) : Type 0 where
  next : Record
  good : IsGoodIn form next
  rest : List ℕ
  text : bytes ≡ encoding_in form next ++ rest
  fits : IsBytes rest

abbrev LacksFront : Form → List ℕ → Type 0
LacksFront form bytes = (r : Record) (rest : List ℕ) → IsGoodIn form r → bytes ≢ encoding_in form r ++ rest

front_by : (form : Form) (bytes : List ℕ) (read : Result (Record × List ℕ) DecodeFault) → IsBytes bytes → good_at form bytes ≡ read → HasFront form bytes ⊎ LacksFront form bytes
front_by form bytes (Ok x) fits e =
    let t = (good_reads form).takes bytes x fits e in
    inl (record { next = x.0; good = t.1; rest = x.1; text = t.0.parts; fits = t.0.rest_fits })
front_by form bytes (Err f) fits e =
    inr (λ r rest good is.
    let wrong : Err f ≡ Ok (r, rest) = sym e ∙ ap (good_at form) is ∙ (good_reads form).again r rest good in
    cc)

decide_front : (form : Form) (bytes : List ℕ) → IsBytes bytes → HasFront form bytes ⊎ LacksFront form bytes
decide_front form bytes fits = front_by form bytes (good_at form bytes) fits refl

-- ---- a body

record HasBody (form : Form) (first : Bool) (count : ℕ) (bytes : List ℕ) : Type 0 where
  all : List Record
  is : IsBodyIn form first count all bytes

abbrev LacksBody : Form → Bool → ℕ → List ℕ → Type 0
LacksBody form first count bytes = (rs : List Record) → IsBodyIn form first count rs bytes → ⊥

nothing_read : (form : Form) (first : Bool) (bytes : List ℕ) → HasRead form first bytes [] 0 bytes
nothing_read form first bytes = record { good = tt; allowed = tt; counted = refl; text = refl }

none_later : (form : Form) (first : Bool) (n : ℕ) (bytes : List ℕ) (front : HasFront form bytes) → LacksBody form first n front.rest → LacksBody form first (suc n) bytes
none_later form first n bytes front none [] is = absurd (omega (arith, is.counted))
none_later form first n bytes front none (r ∷ rs) is =
    let one = one_encoding_in_lem form r front.next (body_in form rs) front.rest is.good.0 front.good (sym is.text ∙ front.text) in
    none rs (record { good = is.good.1; allowed = is.allowed.1; counted = omega (arith, is.counted); text = sym one.1 })

body_more : (form : Form) (first : Bool) (n : ℕ) (bytes : List ℕ) (front : HasFront form bytes) (may : Bool) → may_stand first front.next ≡ may → HasBody form first n front.rest ⊎ LacksBody form first n front.rest
    → HasBody form first (suc n) bytes ⊎ LacksBody form first (suc n) bytes
body_more form first n bytes front false e later =
    inr (no_body_by_kept form first bytes [] 0 (suc n) bytes front.next front.rest (nothing_read form first bytes) (omega arith) front.good front.text e)
body_more form first n bytes front true e (inl has) =
    inl (record {
      all = front.next ∷ has.all;
      is = record {
        good = (front.good, has.is.good);
        allowed = (e, has.is.allowed);
        counted = ap suc has.is.counted;
        text = front.text ∙ ap (λ (y : List ℕ). encoding_in form front.next ++ y) has.is.text;
      };
    })
body_more form first n bytes front true e (inr none) = inr (none_later form first n bytes front none)

body_next : (form : Form) (first : Bool) (n : ℕ) (bytes : List ℕ) → HasFront form bytes ⊎ LacksFront form bytes → ((front : HasFront form bytes) → HasBody form first n front.rest ⊎ LacksBody form first n front.rest)
    → HasBody form first (suc n) bytes ⊎ LacksBody form first (suc n) bytes
body_next form first n bytes (inl front) later = body_more form first n bytes front (may_stand first front.next) refl (later front)
body_next form first n bytes (inr none) later =
    inr (no_body_by_none form first bytes [] 0 (suc n) bytes (nothing_read form first bytes) (omega arith) none)

decide_body : (form : Form) (first : Bool) (count : ℕ) (bytes : List ℕ) → IsBytes bytes → HasBody form first count bytes ⊎ LacksBody form first count bytes
decide_body form first zero [] fits =
    inl (record { all = []; is = record { good = tt; allowed = tt; counted = refl; text = refl } })
decide_body form first zero (b ∷ bytes) fits = inr (λ rs is. no_more form b bytes rs is.text is.counted)
decide_body form first (suc n) bytes fits =
    body_next form first n bytes (decide_front form bytes fits) (λ front. decide_body form first n front.rest front.fits)

-- ---- a number

-- a number of this width at the front
pub record HasNumber (w : Width) (limit : ℕ) (bytes : List ℕ) : Type 0 where
  pub value : ℕ
  pub small : value < limit
  pub rest : List ℕ
  pub text : bytes ≡ to_le_bytes w value ++ rest
  pub fits : IsBytes rest

pub decide_number : (w : Width) (limit : ℕ) → IsWide w limit → (bytes : List ℕ) → IsBytes bytes → (length bytes < byte_len w) ⊎ HasNumber w limit bytes
decide_number w limit wide bytes fits =
    elim (cases_lt (length bytes) (byte_len w)) [
      | inl short ↦ inl short
      | inr long ↦ inr (record {
        value = from_le_bytes w (take (byte_len w) bytes);
        small = wide.below (take (byte_len w) bytes) (IsBytes-take (byte_len w) bytes fits);
        rest = drop (byte_len w) bytes;
        text =
            let front = wide.again (take (byte_len w) bytes) (omega (arith, length-take (byte_len w) bytes)) (IsBytes-take (byte_len w) bytes fits) in
            rw front (sym (take-append-drop (byte_len w) bytes));
        fits = IsBytes-drop (byte_len w) bytes fits;
      })
    ]

-- ---- a frame

record HasFrame (bytes : List ℕ) : Type 0 where
  count : ℕ
  few : count < 2 ^ 32
  text : List ℕ
  short : length text ≤ 2 ^ 30
  rest : List ℕ
  parts : bytes ≡ number (length text) ++ (number count ++ (text ++ rest))
  text_fits : IsBytes text
  fits : IsBytes rest

abbrev LacksFrame : List ℕ → Type 0
LacksFrame bytes = (count : ℕ) (text rest : List ℕ) → length text ≤ 2 ^ 30 → bytes ≢ number (length text) ++ (number count ++ (text ++ rest))

frame_of_parts : (bytes : List ℕ) (len : HasNumber w32 (2 ^ 32) bytes) (count : HasNumber w32 (2 ^ 32) len.rest) → (2 ^ 30 < len.value) ⊎ (len.value ≤ 2 ^ 30) → (length count.rest < len.value) ⊎ (len.value ≤ length count.rest)
    → HasFrame bytes ⊎ LacksFrame bytes
frame_of_parts bytes len count (inl long) cut =
    inr (λ n text rest short e.
    let same = same_number w32 (2 ^ 32) wide32 len.value (length text) len.rest (number n ++ (text ++ rest)) len.small (omega (arith, short)) (sym len.text ∙ e) in
    absurd (omega (arith, same.number_is, long, short)))
frame_of_parts bytes len count (inr le) (inl cut) =
    inr (λ n text rest short e.
    let same = same_number w32 (2 ^ 32) wide32 len.value (length text) len.rest (number n ++ (text ++ rest)) len.small (omega (arith, short)) (sym len.text ∙ e) in
    absurd (omega (arith, same.number_is, cut, ap length same.back, ap length count.text, length-append text rest)))
frame_of_parts bytes len count (inr le) (inr enough) =
    let n = len.value in
    let text : List ℕ = take n count.rest in
    let rest : List ℕ = drop n count.rest in
    let long : length text ≡ n = omega (arith, length-take n count.rest) in
    inl (record {
      count = count.value;
      few = count.small;
      text = text;
      short = omega (arith, long, le);
      rest = rest;
      parts = len.text
          ∙ ap (λ (y : List ℕ). number n ++ y) (count.text ∙ ap (λ (y : List ℕ). number count.value ++ y) (sym (take-append-drop n count.rest)))
          ∙ ap (λ (k : ℕ). number k ++ (number count.value ++ (text ++ rest))) (sym long);
      text_fits = IsBytes-take n count.rest count.fits;
      fits = IsBytes-drop n count.rest count.fits;
    })

frame_of_length : (bytes : List ℕ) (len : HasNumber w32 (2 ^ 32) bytes) → (length len.rest < 4) ⊎ HasNumber w32 (2 ^ 32) len.rest → HasFrame bytes ⊎ LacksFrame bytes
frame_of_length bytes len (inl cut) = inr (λ n text rest short e. absurd (omega (arith, cut, ap length len.text, ap length e)))
frame_of_length bytes len (inr count) =
    frame_of_parts bytes len count (cases_lt (2 ^ 30) len.value) (cases_lt (length count.rest) len.value)

decide_frame : (bytes : List ℕ) → IsBytes bytes → HasFrame bytes ⊎ LacksFrame bytes
decide_frame bytes fits =
    elim (decide_number w32 (2 ^ 32) wide32 bytes fits) [
      | inl cut ↦ inr (λ n text rest short e. absurd (omega (arith, cut, ap length e)))
      | inr len ↦ frame_of_length bytes len (decide_number w32 (2 ^ 32) wide32 len.rest len.fits)
    ]

-- ---- a batch

-- behind a gate a batch of this version stands
pub record HasBatch (form : Form) (first : Bool) (bytes : List ℕ) : Type 0 where
  pub all : List Record
  pub filled : FillBatchIn form first all
  pub rest : List ℕ
  pub text : bytes ≡ framed_in form all ++ rest
  pub fits : IsBytes rest

-- behind a gate no such batch stands
abbrev pub LacksBatch : Form → Bool → List ℕ → Type 0
LacksBatch form first bytes = (rs : List Record) (rest : List ℕ) → FillBatchIn form first rs → bytes ≢ framed_in form rs ++ rest

batch_of_frame : (form : Form) (first : Bool) (bytes : List ℕ) (f : HasFrame bytes) → (0 < f.count) ⊎ (f.count ≤ 0) → HasBody form first f.count f.text ⊎ LacksBody form first f.count f.text → HasBatch form first bytes ⊎ LacksBatch form first bytes
batch_of_frame form first bytes f (inr none) b =
    inr (no_batch_by_count form first f.count f.text f.rest bytes (omega arith) f.short f.parts)
batch_of_frame form first bytes f (inl some) (inr none) =
    inr (no_batch_by_body form first f.count f.text f.rest bytes f.few f.short f.parts none)
batch_of_frame form first bytes f (inl some) (inl has) =
    inl (record {
      all = has.all;
      filled = record {
        some = omega (arith, has.is.counted, some);
        good = has.is.good;
        allowed = has.is.allowed;
        short = omega (arith, ap length has.is.text, f.short);
      };
      rest = f.rest;
      text = f.parts
          ∙ ap (λ (t : List ℕ). number (length t) ++ (number f.count ++ (t ++ f.rest))) has.is.text
          ∙ ap (λ (k : ℕ). number (length (body_in form has.all)) ++ (number k ++ (body_in form has.all ++ f.rest))) (sym has.is.counted);
      fits = f.fits;
    })

-- it does or it doesn't
pub decide_batch : (form : Form) (first : Bool) (bytes : List ℕ) → IsBytes bytes → HasBatch form first bytes ⊎ LacksBatch form first bytes
decide_batch form first bytes fits =
    elim (decide_frame bytes fits) [
      | inl f ↦ batch_of_frame form first bytes f (cases_lt 0 f.count) (decide_body form first f.count f.text f.text_fits)
      | inr none ↦ inr (λ rs rest filled e. none (length rs) (body_in form rs) rest filled.short e)
    ]
