-- What is told of the files that a target was made of, and of the target's own.
use Rattle.std.specs.Prelude.{ℕ, List, [], ◌∷◌, ◌++◌, length, drop, slice_get, Option, None, Some, codes}
use Rattle.std.specs.List.{flat_map}
use Rattle.st_records.specs.declared.record.Explicit.{Explicit}
use Rattle.st_records.specs.declared.record.Explicit.TheVariants.{Unknown, Known, Marked}
use Rattle.st_marks.specs.declared.mark.Mark.{Mark}
use Rattle.st_marks.specs.Parts.{Parted, parts_of}
use Rattle.st_marks.specs.Told.{mark_text}
use Rattle.st_answers.specs.Lines.{row, rows}

-- a row for each prerequisite
abbrev pub plain_rows : (names hidden : List (List ℕ)) → List ℕ
plain_rows names hidden = rows (codes "explicit") names ++ rows (codes "hidden") hidden

abbrev pub mark_row : Mark → List ℕ
mark_row mark = row (codes "mark") (mark_text mark)

-- the mark of a name, below its row, where there is one
abbrev pub mark_below : Option Mark → List ℕ
mark_below None = []
mark_below (Some mark) = mark_row mark

-- a row for each name, which says this word of it, and its mark below: the first one's is the first of the marks
abbrev pub marked_rows : (word : List ℕ) → List (List ℕ) → List Mark → List ℕ
marked_rows word [] marks = []
marked_rows word (name ∷ names) marks = (row word name ++ mark_below (slice_get marks 0)) ++ marked_rows word names (drop 1 marks)

-- the source, if there is one, and its mark below
abbrev pub source_rows : Option (List ℕ) → List Mark → List ℕ
source_rows None marks = []
source_rows (Some name) marks = row (codes "inferred") name ++ mark_below (slice_get marks 0)

-- the marks of the target's files, and then the source and each prerequisite with its mark
abbrev pub rows_with : (names hidden : List (List ℕ)) → Parted → List ℕ
rows_with names hidden marks =
    flat_map mark_row marks.files
    ++ (source_rows marks.source marks.of_source ++ (marked_rows (codes "explicit") names marks.explicit ++ marked_rows (codes "hidden") hidden marks.hidden))

-- where the marks can't be read, a row says so, and the others are as without marks
abbrev pub rows_by : (names hidden : List (List ℕ)) → Option Parted → List ℕ
rows_by names hidden None = row (codes "mark") (codes "unreadable") ++ plain_rows names hidden
rows_by names hidden (Some marks) = rows_with names hidden marks

-- the rows behind that of the target, by what is said of its explicit names
abbrev pub rows_below : (hidden : List (List ℕ)) → Explicit → List ℕ
rows_below hidden Unknown = plain_rows [] hidden
rows_below hidden (Known names) = plain_rows names hidden
rows_below hidden (Marked names text) = rows_by names hidden (parts_of text (length names) (length hidden))
