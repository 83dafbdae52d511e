-- A side with one batch more. The limits are this project's own.
use Rattle.std.specs.Prelude.{◌⊎◌, ℕ, ◌+◌, ◌<◌, ◌^◌, List, ◌++◌, length}
use Rattle.st_records.specs.declared.version.Version.{Version}
use Rattle.st_records.specs.declared.version.Form.{Form}
use Rattle.st_records.specs.declared.version.Form.TheVariants.{Plain}
use Rattle.st_records.specs.declared.record.Record.{Record}
use Rattle.st_records.specs.Forms.{form_of}
use Rattle.st_file.specs.Batch.{body_in}
use Rattle.st_file.specs.Side.{HoldsUpToIn}

-- a batch of these records is too long: its body has more than 2 ^ 30 bytes, or with it a side that ends here would end
-- past 2 ^ 40
abbrev pub IsFullIn : Form → ℕ → List Record → Type 0
IsFullIn form end rs = (2 ^ 30 < length (body_in form rs)) ⊎ (2 ^ 40 < end + (9 + length (body_in form rs)))

-- the side holds these records, wherever they end
abbrev pub HoldsInForm : List ℕ → Form → ℕ → List Record → Type 0
HoldsInForm x form generation held = (end : ℕ) × HoldsUpToIn x form generation held end

-- the side holds the records before, or those and all of the batch
abbrev pub HoldsWithOrWithoutIn : Form → ℕ → (held batch : List Record) → List ℕ → Type 0
HoldsWithOrWithoutIn form generation held batch x =
    HoldsInForm x form generation held ⊎ HoldsInForm x form generation (held ++ batch)

-- ---- in a file of some version

-- of version 2
abbrev pub IsFull : ℕ → List Record → Type 0
IsFull = IsFullIn Plain

abbrev pub HoldsWithOrWithout : Version → ℕ → (held batch : List Record) → List ℕ → Type 0
HoldsWithOrWithout v = HoldsWithOrWithoutIn (form_of v)
