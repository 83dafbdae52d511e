-- A batch of records: what one commit appends to a side. The format is this project's own. The form of a side's records says
-- how they are spelled and which of them are good.
use Rattle.std.specs.Prelude.{◌≡◌, ℕ, ◌<◌, ◌≤◌, ◌^◌, Bool, true, false, ◌||◌, not, List, [], ◌∷◌, ◌++◌, length}
use Rattle.std.specs.List.{flat_map, AllByRecursion}
use Rattle.st_records.specs.declared.version.Version.{Version}
use Rattle.st_records.specs.declared.version.Form.{Form}
use Rattle.st_records.specs.declared.record.Record.{Record}
pub use Rattle.st_records.specs.Parts.{is_kept}
use Rattle.st_records.specs.Forms.{form_of}
use Rattle.st_records.specs.Encoding.{encoding_in, number}
use Rattle.st_records.specs.Limits.{IsGoodIn}
use Rattle.st_records.specs.Faults.{HasWholeTarget}

-- the records' texts, one after another
abbrev pub body_in : Form → List Record → List ℕ
body_in form rs = flat_map (encoding_in form) rs

-- what stands behind a batch's gate: the length of the body, the number of records and the body
abbrev pub framed_in : Form → List Record → List ℕ
framed_in form rs = number (length (body_in form rs)) ++ (number (length rs) ++ body_in form rs)

-- a kept record stands in a side's first batch alone
abbrev pub may_stand : Bool → Record → Bool
may_stand first r = first || not (is_kept r)

-- records that make up a batch, a side's first or a later one: there are some, each is good and may stand there, and
-- their text has at most 2 ^ 30 bytes
pub record FillBatchIn (form : Form) (first : Bool) (rs : List Record) : Type 0 where
  pub some : 0 < length rs
  pub good : AllByRecursion (IsGoodIn form) rs
  pub allowed : AllByRecursion (λ r. may_stand first r ≡ true) rs
  pub short : length (body_in form rs) ≤ 2 ^ 30

-- a gate and the records behind it
pub record Batch : Type 0 where
  pub gate : ℕ
  pub records : List Record

-- the bytes of a batch
abbrev pub batch_encoding_in : Form → Batch → List ℕ
batch_encoding_in form b = b.gate ∷ framed_in form b.records

-- the bytes of batches, one after another
abbrev pub text_of_in : Form → List Batch → List ℕ
text_of_in form bs = flat_map (batch_encoding_in form) bs

-- a batch that counts: its gate is open, and its records make up a batch
pub record IsBatchIn (form : Form) (first : Bool) (b : Batch) : Type 0 where
  pub is_open : 0 < b.gate
  pub filled : FillBatchIn form first b.records

-- batches that may stand one after another, the first of them first on its side or not
abbrev pub AreBatchesIn : Form → Bool → List Batch → Type 0
AreBatchesIn form first [] = Unit {0}
AreBatchesIn form first (b ∷ bs) = IsBatchIn form first b × AreBatchesIn form false bs

-- the records of batches, in order
abbrev pub records_of : List Batch → List Record
records_of bs = flat_map (λ b. b.records) bs

-- the bytes are the text of this many good records that may stand in such a batch
pub record IsBodyIn (form : Form) (first : Bool) (count : ℕ) (rs : List Record) (bytes : List ℕ) : Type 0 where
  pub good : AllByRecursion (IsGoodIn form) rs
  pub allowed : AllByRecursion (λ r. may_stand first r ≡ true) rs
  pub counted : length rs ≡ count
  pub text : bytes ≡ body_in form rs

-- a batch's frame: the length of a body that isn't too long, the number of its records, of which there are some and no
-- more than four bytes can count, and all of the body; whatever the body says
pub record IsFramed (bytes : List ℕ) : Type 0 where
  pub count : ℕ
  pub some : 0 < count
  pub fits : count < 2 ^ 32
  pub text : List ℕ
  pub short : length text ≤ 2 ^ 30
  pub rest : List ℕ
  pub parts : bytes ≡ number (length text) ++ (number count ++ (text ++ rest))

-- a body that is to have this many records comes to one of them: behind fewer of them, which may stand there, a record
-- goes on as far as its whole target
pub record ComesToTargetIn (form : Form) (first : Bool) (count : ℕ) (text : List ℕ) : Type 0 where
  pub before : List Record
  pub good : AllByRecursion (IsGoodIn form) before
  pub allowed : AllByRecursion (λ r. may_stand first r ≡ true) before
  pub fewer : length before < count
  pub behind : List ℕ
  pub parts : text ≡ body_in form before ++ behind
  pub target : HasWholeTarget behind

-- ---- in a file of some version

abbrev pub body : Version → List Record → List ℕ
body v = body_in (form_of v)

abbrev pub framed : Version → List Record → List ℕ
framed v = framed_in (form_of v)

abbrev pub FillBatch : Version → Bool → List Record → Type 0
FillBatch v = FillBatchIn (form_of v)

abbrev pub text_of : Version → List Batch → List ℕ
text_of v = text_of_in (form_of v)

abbrev pub IsBatch : Version → Bool → Batch → Type 0
IsBatch v = IsBatchIn (form_of v)

abbrev pub AreBatches : Version → Bool → List Batch → Type 0
AreBatches v = AreBatchesIn (form_of v)
