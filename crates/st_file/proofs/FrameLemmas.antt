-- A batch behind its gate: its records and what follows it are read off in one way.
use Rattle.std.proofs.Common.{◌≡◌, ◌≢◌, ℕ, ◌<◌, ◌≤◌, ◌^◌, Bool, List, [], ◌∷◌, ◌++◌, length, take, drop, refl, sym, ap, ◌∙◌, arith}
use Rattle.std.proofs.lemmas.List.{take_at, drop_at, length-append, append-nil, nil_from_length}
use Rattle.std.proofs.lemmas.Nat.{le_bytes_2, le_bytes_4, le_bytes_8, from_le_bytes-to_le_bytes_2, from_le_bytes-to_le_bytes_4, from_le_bytes-to_le_bytes_8}
use Rattle.std.specs.Int.{Width, w16, w32, w64, byte_len, to_le_bytes, from_le_bytes}
use Rattle.st_records.specs.declared.version.Form.{Form}
use Rattle.st_records.specs.declared.record.Record.{Record}
use Rattle.st_records.specs.declared.record.Record.TheVariants as records
use Rattle.st_records.specs.Encoding.{encoding_in, number}
use Rattle.st_records.proofs.Fields.{IsBytes}
use Rattle.st_file.specs.Batch.{body_in, framed_in, FillBatchIn, IsBodyIn}
use Rattle.st_file.proofs.BatchLemmas.{leaves}

-- two texts that begin alike and are cut at one length
pub record SameParts (a b x y : List ℕ) : Type 0 where
  pub front : a ≡ b
  pub back : x ≡ y

pub same_parts : (a b x y : List ℕ) → length a ≡ length b → a ++ x ≡ b ++ y → SameParts a b x y
same_parts a b x y len e = record {
  front = sym (take_at a x (length a) refl) ∙ ap (take (length a)) e ∙ take_at b y (length a) (sym len);
  back = sym (drop_at a x (length a) refl) ∙ ap (drop (length a)) e ∙ drop_at b y (length a) (sym len);
}

-- numbers of one width
pub record IsWide (w : Width) (limit : ℕ) : Type 0 where
  pub len : (n : ℕ) → length (to_le_bytes w n) ≡ byte_len w
  pub back : (n : ℕ) → n < limit → from_le_bytes w (to_le_bytes w n) ≡ n
  pub again : (bytes : List ℕ) → length bytes ≡ byte_len w → IsBytes bytes → to_le_bytes w (from_le_bytes w bytes) ≡ bytes
  pub below : (bytes : List ℕ) → IsBytes bytes → from_le_bytes w bytes < limit

pub wide16 : IsWide w16 (2 ^ 16)
wide16 = record {
  len = λ n. refl;
  back = λ n lt. from_le_bytes-to_le_bytes_2 n lt;
  again = λ bytes len fits. le_bytes_2 bytes _ len fits refl;
  below = λ bytes fits. omega (arith, fits 0, fits 1);
}

pub wide32 : IsWide w32 (2 ^ 32)
wide32 = record {
  len = λ n. refl;
  back = λ n lt. from_le_bytes-to_le_bytes_4 n lt;
  again = λ bytes len fits. le_bytes_4 bytes _ len fits refl;
  below = λ bytes fits. omega (arith, fits 0, fits 1, fits 2, fits 3);
}

pub wide64 : IsWide w64 (2 ^ 64)
wide64 = record {
  len = λ n. refl;
  back = λ n lt. from_le_bytes-to_le_bytes_8 n lt;
  again = λ bytes len fits. le_bytes_8 bytes _ len fits refl;
  below = λ bytes fits. omega (arith, fits 0, fits 1, fits 2, fits 3, fits 4, fits 5, fits 6, fits 7);
}

pub record SameNumber (m n : ℕ) (x y : List ℕ) : Type 0 where
  pub number_is : m ≡ n
  pub back : x ≡ y

pub same_number : (w : Width) (limit : ℕ) → IsWide w limit → (m n : ℕ) (x y : List ℕ) → m < limit → n < limit → to_le_bytes w m ++ x ≡ to_le_bytes w n ++ y → SameNumber m n x y
same_number w limit wide m n x y lm ln e =
    let parts = same_parts (to_le_bytes w m) (to_le_bytes w n) x y (wide.len m ∙ sym (wide.len n)) e in
    record { number_is = sym (wide.back m lm) ∙ ap (from_le_bytes w) parts.front ∙ wide.back n ln; back = parts.back }

some_bytes : (form : Form) (r : Record) → 0 < length (encoding_in form r)
some_bytes form (records.Begun _) = omega arith
some_bytes form (records.Done _ _ _ _) = omega arith
some_bytes form (records.Failed _ _) = omega arith
some_bytes form (records.Kept _ _) = omega arith

-- a body has a byte at least for each record
pub length-body : (form : Form) (rs : List Record) → length rs ≤ length (body_in form rs)
length-body form [] = omega arith
length-body form (r ∷ rs) = omega (arith, some_bytes form r, length-body form rs, length-append (encoding_in form r) (body_in form rs))

-- where a batch begins, its frame is the one that was read
pub record SameFrame (form : Form) (count : ℕ) (text rest : List ℕ) (rs : List Record) (after : List ℕ) : Type 0 where
  pub counted : length rs ≡ count
  pub text_is : text ≡ body_in form rs
  pub back : rest ≡ after

pub same_frame : (form : Form) (first : Bool) (count : ℕ) (text rest : List ℕ) (rs : List Record) (after : List ℕ) → count < 2 ^ 32 → length text ≤ 2 ^ 30 → FillBatchIn form first rs
    → number (length text) ++ (number count ++ (text ++ rest)) ≡ framed_in form rs ++ after → SameFrame form count text rest rs after
same_frame form first count text rest rs after lt short filled e =
    let regrouped : number (length text) ++ (number count ++ (text ++ rest)) ≡ number (length (body_in form rs)) ++ (number (length rs) ++ (body_in form rs ++ after)) = e in
    let few : length rs < 2 ^ 32 = omega (arith, length-body form rs, filled.short) in
    let one = same_number w32 (2 ^ 32) wide32 (length text) (length (body_in form rs)) (number count ++ (text ++ rest)) (number (length rs) ++ (body_in form rs ++ after)) (omega arith) (omega (arith, filled.short)) regrouped in
    let two = same_number w32 (2 ^ 32) wide32 count (length rs) (text ++ rest) (body_in form rs ++ after) lt few one.back in
    let parts = same_parts text (body_in form rs) rest after one.number_is two.back in
    record { counted = sym two.number_is; text_is = parts.front; back = parts.back }

-- nothing that isn't such a body fills a batch there
pub no_batch_by_body : (form : Form) (first : Bool) (count : ℕ) (text rest bytes : List ℕ) → count < 2 ^ 32 → length text ≤ 2 ^ 30 → bytes ≡ number (length text) ++ (number count ++ (text ++ rest))
    → ((rs : List Record) → IsBodyIn form first count rs text → ⊥) → (rs : List Record) (after : List ℕ) → FillBatchIn form first rs → bytes ≢ framed_in form rs ++ after
no_batch_by_body form first count text rest bytes lt short split none rs after filled e =
    let same = same_frame form first count text rest rs after lt short filled (sym split ∙ e) in
    none rs (record { good = filled.good; allowed = filled.allowed; counted = same.counted; text = same.text_is })

-- a batch has a record
pub no_batch_by_count : (form : Form) (first : Bool) (count : ℕ) (text rest bytes : List ℕ) → count ≡ 0 → length text ≤ 2 ^ 30 → bytes ≡ number (length text) ++ (number count ++ (text ++ rest))
    → (rs : List Record) (after : List ℕ) → FillBatchIn form first rs → bytes ≢ framed_in form rs ++ after
no_batch_by_count form first count text rest bytes none short split rs after filled e =
    let same = same_frame form first count text rest rs after (omega arith) short filled (sym split ∙ e) in
    absurd (omega (arith, same.counted, filled.some))

pub record SameRecords (rs ss : List Record) (x y : List ℕ) : Type 0 where
  pub records_are : rs ≡ ss
  pub back : x ≡ y

no_others : (rs ss others : List Record) → rs ≡ ss ++ others → length rs ≡ length ss → rs ≡ ss
no_others rs ss others split len =
    let none : others ≡ [] = nil_from_length others (omega (arith, ap length split, length-append ss others)) in
    split ∙ ap (λ (x : List Record). ss ++ x) none ∙ append-nil ss

-- behind a gate one batch stands at most
pub same_records : (form : Form) (first later : Bool) (rs ss : List Record) (x y : List ℕ) → FillBatchIn form first rs → FillBatchIn form later ss → framed_in form rs ++ x ≡ framed_in form ss ++ y → SameRecords rs ss x y
same_records form first later rs ss x y rs_filled ss_filled e =
    let same = same_frame form later (length rs) (body_in form rs) x ss y (omega (arith, length-body form rs, rs_filled.short)) rs_filled.short ss_filled e in
    let left = leaves form ss rs [] ss_filled.good rs_filled.good (omega (arith, same.counted)) (append-nil (body_in form ss) ∙ sym same.text_is) in
    record { records_are = no_others rs ss left.others left.split (sym same.counted); back = same.back }
