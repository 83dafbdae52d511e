-- Targets that aren't finished, or whose file isn't the one that was made (own). What a look at a name finds is said as a mark: `Unknown`
-- where it can't be told. By times and sizes, as verdicts tell files apart (mk_verdict, "Marks").
use Rattle.std.specs.Prelude.{ℕ, ◌&&◌, Bool, true, false, List, [], length, slice_get, nat_eq, Option, None, Some, codes, if◌then◌else◌}
use Rattle.std.specs.List.{flat_map}
use Rattle.std.specs.Ordering.{int_eq}
use Rattle.std.specs.FinMap as map
use Rattle.st_records.specs.declared.record.Phase.{Phase}
use Rattle.st_records.specs.declared.record.Phase.TheVariants as phases
use Rattle.st_records.specs.declared.record.Explicit.{Explicit}
use Rattle.st_records.specs.declared.record.Explicit.TheVariants as explicits
use Rattle.st_records.specs.declared.record.Entry.{Entry}
use Rattle.st_marks.specs.declared.mark.Stamp.{Stamp}
use Rattle.st_marks.specs.declared.mark.Mark.{Mark}
use Rattle.st_marks.specs.declared.mark.Mark.TheVariants.{Unknown, NoFile, Other, File, Own}
use Rattle.st_marks.specs.Parts.{Parted, parts_of}
use Rattle.st_state.specs.State.{StateMap}
use Rattle.st_answers.specs.Lines.{row}
use Rattle.st_answers.specs.declared.stale.Stale.{Stale}
use Rattle.st_answers.specs.declared.stale.Stale.TheVariants as stale

-- ---- what is recorded of the target's own file

abbrev pub or_unknown : Option Mark → Mark
or_unknown None = Unknown
or_unknown (Some mark) = mark

-- the first of the marks of its files, which is the target's own; an unknown one where they can't be read
abbrev pub own_among : Option Parted → Mark
own_among None = Unknown
own_among (Some marks) = or_unknown (slice_get marks.files 0)

-- by what is said of the explicit names; None where no marks are kept
abbrev pub own_mark_of : (hidden : List (List ℕ)) → Explicit → Option Mark
own_mark_of hidden explicits.Unknown = None
own_mark_of hidden (explicits.Known names) = None
own_mark_of hidden (explicits.Marked names text) = Some (own_among (parts_of text (length names) (length hidden)))

abbrev pub own_mark : Entry → Option Mark
own_mark entry = own_mark_of entry.hidden entry.explicit

-- ---- whether a file is as its mark says

abbrev pub is_no_file : Mark → Bool
is_no_file Unknown = false
is_no_file NoFile = true
is_no_file Other = false
is_no_file (File stamp) = false
is_no_file (Own stamp) = false

abbrev pub is_other : Mark → Bool
is_other Unknown = false
is_other NoFile = false
is_other Other = true
is_other (File stamp) = false
is_other (Own stamp) = false

-- of the same time and size
abbrev pub same_stamp : Stamp → Stamp → Bool
same_stamp a b = int_eq a.time b.time && nat_eq a.size b.size

-- an ordinary file of this time and size
abbrev pub has_stamp : Stamp → (look : Mark) → Bool
has_stamp stamp Unknown = false
has_stamp stamp NoFile = false
has_stamp stamp Other = false
has_stamp stamp (File now) = same_stamp stamp now
has_stamp stamp (Own now) = same_stamp stamp now

-- where the mark is unknown, no look shows that
abbrev pub is_as_marked : (mark look : Mark) → Bool
is_as_marked Unknown look = false
is_as_marked NoFile look = is_no_file look
is_as_marked Other look = is_other look
is_as_marked (File stamp) look = has_stamp stamp look
is_as_marked (Own stamp) look = has_stamp stamp look

-- ---- what is wrong with a target

-- no file is there, or it may be any other one, or it is another one
abbrev pub unlike : (mark look : Mark) → Stale
unlike Unknown look = if is_no_file look then stale.Gone else stale.Unmarked
unlike NoFile look = stale.Changed
unlike Other look = if is_no_file look then stale.Gone else stale.Changed
unlike (File stamp) look = if is_no_file look then stale.Gone else stale.Changed
unlike (Own stamp) look = if is_no_file look then stale.Gone else stale.Changed

-- of a finished target: without a mark it is wrong just that no file is there
abbrev pub file_stale : Option Mark → (look : Mark) → Option Stale
file_stale None look = if is_no_file look then Some stale.Gone else None
file_stale (Some mark) look = if is_as_marked mark look then None else Some (unlike mark look)

abbrev pub stale_by : Phase → Option Mark → (look : Mark) → Option Stale
stale_by phases.Begun mark look = Some stale.Begun
stale_by phases.Done mark look = file_stale mark look
stale_by (phases.Failed status) mark look = Some stale.Failed

abbrev pub stale_of : Entry → (look : Mark) → Option Stale
stale_of entry look = stale_by entry.phase (own_mark entry) look

-- ---- the answer

abbrev pub stale_word : Stale → List ℕ
stale_word stale.Begun = codes "begun"
stale_word stale.Failed = codes "failed"
stale_word stale.Gone = codes "gone"
stale_word stale.Changed = codes "changed"
stale_word stale.Unmarked = codes "unmarked"

abbrev pub word_row : (name : List ℕ) → Option Stale → List ℕ
word_row name None = []
word_row name (Some wrong) = row (stale_word wrong) name

-- a target with what is wrong, where its name was looked at
abbrev pub looked_row : List ℕ × Entry → Option Mark → List ℕ
looked_row e None = []
looked_row e (Some look) = word_row e.0 (stale_of e.1 look)

-- the same, by all looks
abbrev pub stale_row : (look : List ℕ → Mark) → List ℕ × Entry → List ℕ
stale_row look e = looked_row e (Some (look e.0))

-- each such target, in byte order of the names
abbrev pub stale_text : (look : List ℕ → Mark) → StateMap → List ℕ
stale_text look m = flat_map (stale_row look) (map.entries m)
