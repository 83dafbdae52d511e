-- Marks as a verdict takes them. Own.
use Rattle.std.specs.Prelude.{ℕ, List, [], ◌∷◌, drop, length, ◌==◌, if◌then◌else◌}
use Rattle.st_marks.specs.declared.mark.Mark.{Mark as KeptMark}
use Rattle.st_marks.specs.declared.mark.Mark.TheVariants as kept_mark
use Rattle.mk_verdict.specs.declared.mark.Look.TheVariants.{NoFile, Other, File}
use Rattle.mk_verdict.specs.declared.mark.Mark.{Mark}
use Rattle.mk_verdict.specs.declared.mark.Mark.TheVariants.{Unknown, Was}
use Rattle.mk_marks.specs.declared.kept.Kept.{Kept}

-- one that the recipe writes itself counts as any file
abbrev pub mark_from : KeptMark → Mark
mark_from kept_mark.Unknown = Unknown
mark_from kept_mark.NoFile = Was NoFile
mark_from kept_mark.Other = Was Other
mark_from (kept_mark.File stamp) = Was (File stamp.time stamp.size)
mark_from (kept_mark.Own stamp) = Was (File stamp.time stamp.size)

-- the first mark, and those behind it
abbrev pub first_in : (other : Mark) → List KeptMark → Mark
first_in other [] = other
first_in other (k ∷ marks) = mark_from k

abbrev pub first_mark : Kept → Mark
first_mark kept = first_in kept.other kept.marks

abbrev pub later_marks : Kept → Kept
later_marks kept = record { marks = drop 1 kept.marks; other = kept.other }

-- this one for each file
abbrev pub nothing_kept : (other : Mark) → Kept
nothing_kept other = record { marks = []; other = other }

-- these, where they are so many; else each is unknown
abbrev pub so_many_kept : (marks : List KeptMark) (count : ℕ) → Kept
so_many_kept marks count = if length marks == count then record { marks = marks; other = Unknown } else nothing_kept Unknown
