-- Marks as bytes, in a layout of this project's own. Whether there is a source, and what a mark is of, are one byte each; each
-- number has its lowest byte first.
use Rattle.std.specs.Prelude.{◌≡◌, ℕ, ℤ, ◌%◌, ◌^◌, ◌<◌, List, [], ◌∷◌, ◌++◌, length, Option, Some, None, FitsSigned}
use Rattle.std.specs.Int.{w64, to_le_bytes, cast_unsigned}
use Rattle.std.specs.List.{flat_map, AllByRecursion}
use Rattle.st_records.specs.Encoding.{number, string, FitsString}
use Rattle.st_marks.specs.declared.mark.Stamp.{Stamp}
use Rattle.st_marks.specs.declared.mark.Mark.{Mark}
use Rattle.st_marks.specs.declared.mark.Mark.TheVariants.{Unknown, NoFile, Other, File, Own}

-- the stamp of a file of this time and so many bytes: their number counts modulo 2^32
abbrev pub stamp_of : (time : ℤ) (size : ℕ) → Stamp
stamp_of time size = record { time = time; size = size % 2 ^ 32 }

-- a time in eight bytes, as two's complement
abbrev pub time_fields : ℤ → List ℕ
time_fields time = to_le_bytes w64 (cast_unsigned w64 time)

-- a stamp: the time, and the size in four bytes
abbrev pub stamp_fields : Stamp → List ℕ
stamp_fields stamp = time_fields stamp.time ++ number stamp.size

-- a mark: what it is of, and the stamp of an ordinary file
abbrev pub mark_fields : Mark → List ℕ
mark_fields Unknown = 0 ∷ []
mark_fields NoFile = 1 ∷ []
mark_fields Other = 2 ∷ []
mark_fields (File stamp) = 3 ∷ stamp_fields stamp
mark_fields (Own stamp) = 4 ∷ stamp_fields stamp

-- the source: 0 where there is none, else 1 and its name
abbrev pub source_fields : Option (List ℕ) → List ℕ
source_fields None = 0 ∷ []
source_fields (Some name) = 1 ∷ string name

-- a text: the source, how many marks there are, and each of them
abbrev pub text_of : (source : Option (List ℕ)) (marks : List Mark) → List ℕ
text_of source marks = source_fields source ++ (number (length marks) ++ flat_map mark_fields marks)

-- a stamp whose numbers can be written
abbrev pub FitsStamp : Stamp → Type 0
FitsStamp stamp = FitsSigned w64 stamp.time × (stamp.size < 2 ^ 32)

-- a mark that can be written
abbrev pub FitsMark : Mark → Type 0
FitsMark Unknown = Unit {0}
FitsMark NoFile = Unit {0}
FitsMark Other = Unit {0}
FitsMark (File stamp) = FitsStamp stamp
FitsMark (Own stamp) = FitsStamp stamp

-- a source whose name can be written
abbrev pub FitsSource : Option (List ℕ) → Type 0
FitsSource None = Unit {0}
FitsSource (Some name) = FitsString name

-- the text says of this source and of these marks, which can be written
pub record IsText (source : Option (List ℕ)) (marks : List Mark) (text : List ℕ) : Type 0 where
  pub source_fits : FitsSource source
  pub count_fits : length marks < 2 ^ 32
  pub marks_fit : AllByRecursion FitsMark marks
  pub text_is : text ≡ text_of source marks
