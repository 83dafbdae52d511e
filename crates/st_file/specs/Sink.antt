-- Taking in records one after another.
use Rattle.std.specs.Prelude.{List, ◌++◌}
use Rattle.std.specs.List.{AllByRecursion}
use Rattle.st_records.specs.declared.version.Version.{Version}
use Rattle.st_records.specs.declared.version.Form.{Form}
use Rattle.st_records.specs.Forms.{form_of}
use Rattle.st_records.specs.Limits.{IsGoodIn}
use Rattle.st_records.specs.declared.record.Record.{Record}

-- what had taken in some records has taken in these too, behind them
pub record AddsRecords {X : Type 0} (has_taken : X → List Record → Type 0) (old new : X) (rs : List Record) : Type 0 where
  pub after : (before : List Record) → has_taken old before → has_taken new (before ++ rs)

-- it has taken in just some records, each of them good in this form
pub record HasTakenGoodIn {X : Type 0} (has_taken : X → List Record → Type 0) (form : Form) (sink : X) : Type 0 where
  pub held : List Record
  pub good : AllByRecursion (IsGoodIn form) held
  pub taken : has_taken sink held

-- the same of a file of some version
abbrev pub HasTakenGood : {X : Type 0} → (X → List Record → Type 0) → Version → X → Type 0
HasTakenGood has_taken v = HasTakenGoodIn has_taken (form_of v)
