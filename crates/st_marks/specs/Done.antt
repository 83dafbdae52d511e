-- A done record of version 4: by which commands a target was made, of what, and which files these were.
use Rattle.std.specs.Prelude.{ℕ, List, Option}
use Rattle.st_records.specs.declared.version.Form.TheVariants as forms
use Rattle.st_records.specs.declared.record.Explicit.TheVariants as explicits
use Rattle.st_records.specs.declared.record.Record.{Record}
use Rattle.st_records.specs.declared.record.Record.TheVariants as records
use Rattle.st_records.specs.Limits.{EncodesIn}
use Rattle.st_marks.specs.declared.mark.Mark.{Mark}
use Rattle.st_marks.specs.Encoding.{IsText}

-- what it says: the marks are of the target and those that are made with it, of the source, of the explicit and of the hidden
-- prerequisites
pub record Done : Type 0 where
  pub target : List ℕ
  pub commands : List (List ℕ)
  pub hidden : List (List ℕ)
  pub explicit : List (List ℕ)
  pub source : Option (List ℕ)
  pub marks : List Mark

-- the record with this text of the marks
abbrev pub done_record : Done → (text : List ℕ) → Record
done_record d text = records.Done d.target d.commands d.hidden (explicits.Marked d.explicit text)

-- the bytes are those of the good record that says so
pub record IsDone (d : Done) (bytes : List ℕ) : Type 0 where
  pub text : List ℕ
  pub says : IsText d.source d.marks text
  pub stands : EncodesIn forms.Marked (done_record d text) bytes
