-- The header of a side: a gate, `DMKSTATE`, a version and a generation. The format is this project's own.
use Rattle.std.specs.Prelude.{◌≡◌, ◌≢◌, ℕ, ◌<◌, ◌≤◌, ◌^◌, List, ◌∷◌, ◌++◌, codes}
use Rattle.std.specs.Int.{w16, w64, to_le_bytes}
use Rattle.st_records.specs.declared.version.Version.{Version}
use Rattle.st_records.specs.declared.version.Form.{Form}
use Rattle.st_records.specs.declared.version.Form.TheVariants as forms
use Rattle.st_records.specs.Forms.{form_of}

-- the name that stands behind the header's gate
abbrev pub magic : List ℕ
magic = codes "DMKSTATE"

-- the version whose records have this form, as the number that stands in a header
abbrev pub version_number_in : Form → ℕ
version_number_in forms.Old = 1
version_number_in forms.Plain = 2
version_number_in forms.Marked = 4

-- where this form is the newest that is read, a side of that form is read too
abbrev pub IsReadIn : (newest form : Form) → Type 0
IsReadIn newest form = version_number_in form ≤ version_number_in newest

-- where this form is the newest, the number of no version that is read
abbrev pub IsUnknownVersionIn : (newest : Form) → ℕ → Type 0
IsUnknownVersionIn newest number = (form : Form) → IsReadIn newest form → number ≢ version_number_in form

-- what stands behind a header's gate: the name, the version and the generation
abbrev pub header_text_in : Form → ℕ → List ℕ
header_text_in form generation = magic ++ (to_le_bytes w16 (version_number_in form) ++ to_le_bytes w64 generation)

-- the bytes are an open gate, the name, and then the rest
pub record IsNamed (x : List ℕ) (rest : List ℕ) : Type 0 where
  pub gate : ℕ
  pub is_open : 0 < gate
  pub text : x ≡ gate ∷ (magic ++ rest)

-- the bytes are an open header of the version with this form and of this generation, which is at least 1, and then the rest
pub record HasHeaderIn (x : List ℕ) (form : Form) (generation : ℕ) (rest : List ℕ) : Type 0 where
  pub some : 0 < generation
  pub fits : generation < 2 ^ 64
  pub named : IsNamed x (to_le_bytes w16 (version_number_in form) ++ (to_le_bytes w64 generation ++ rest))

-- ---- in a file of some version

abbrev pub header_text : Version → ℕ → List ℕ
header_text v = header_text_in (form_of v)
