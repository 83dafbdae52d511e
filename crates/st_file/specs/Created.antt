-- A side that is created: void before, and after it with a header and no records. The steps are this project's own.
use Rattle.std.specs.Prelude.{◌≡◌, ◌⊎◌, ℕ, ◌<◌, List, [], length, slice_index}
use Rattle.st_disk.specs.Crash.{UnsyncedWrites, settled}
use Rattle.st_records.specs.declared.version.Form.{Form}
use Rattle.st_records.specs.declared.version.Form.TheVariants.{Plain}
use Rattle.st_file.specs.declared.layout.TheConstants.{HEADER_BYTES}
use Rattle.st_file.specs.Side.{IsVoid, HoldsUpToIn}

-- the first byte is there and is a closed gate
abbrev pub HasClosedGate : List ℕ → Type 0
HasClosedGate x = (0 < length x) × (slice_index x 0 ≡ 0)

-- the side holds no records: a header of this form and of this generation, and a closed gate behind it
abbrev pub IsNewIn : Form → ℕ → List ℕ → Type 0
IsNewIn form generation x = HoldsUpToIn x form generation [] HEADER_BYTES

-- the side is void still, or it holds no records
abbrev pub IsVoidOrNewIn : Form → ℕ → List ℕ → Type 0
IsVoidOrNewIn form generation x = IsVoid x ⊎ IsNewIn form generation x

-- the side holds no records, and all of it is on the disk
pub record IsCreatedIn (form : Form) (generation : ℕ) (seen : List ℕ) (writes : UnsyncedWrites) : Type 0 where
  pub on_disk : writes ≡ settled seen
  pub fresh : IsNewIn form generation seen

-- ---- in a file of version 2

abbrev pub IsVoidOrNew : ℕ → List ℕ → Type 0
IsVoidOrNew = IsVoidOrNewIn Plain

abbrev pub IsCreated : ℕ → List ℕ → UnsyncedWrites → Type 0
IsCreated = IsCreatedIn Plain
