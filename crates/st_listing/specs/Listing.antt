-- The listing of a state: for each name, in byte order, a line with its phase, then its commands, its hidden names and
-- its explicit names, each with its mark where there are marks.
use Rattle.std.specs.Prelude.{ℕ, List, [], ◌∷◌, ◌++◌, length, drop, slice_get, Option, Some, None, codes, ◌==◌, if◌then◌else◌}
use Rattle.std.specs.List.{flat_map}
use Rattle.std.specs.Fmt.{decimal}
use Rattle.std.specs.FinMap as map
use Rattle.st_state.specs.State.{StateMap}
use Rattle.st_marks.specs.declared.mark.Mark.{Mark}
use Rattle.st_marks.specs.Parts.{Parted, parts_of}
use Rattle.st_marks.specs.Told.{mark_text}
use Rattle.st_records.specs.declared.record.Explicit.{Explicit}
use Rattle.st_records.specs.declared.record.Explicit.TheVariants.{Unknown, Known, Marked}
use Rattle.st_records.specs.declared.record.Phase.{Phase}
use Rattle.st_records.specs.declared.record.Phase.TheVariants as phases
use Rattle.st_records.specs.declared.record.Entry.{Entry}

-- the byte that ends a line
abbrev pub newline : ℕ
newline = 10

-- a name with its phase; a failed one shows its status in decimal digits
abbrev pub phase_text : List ℕ → Phase → List ℕ
phase_text name phases.Begun = codes "begun " ++ name
phase_text name phases.Done = codes "done " ++ name
phase_text name (phases.Failed status) = codes "failed " ++ name ++ codes " " ++ decimal status

-- a byte as a command shows it: what follows a newline is marked as going on
abbrev pub continued : ℕ → List ℕ
continued byte = if byte == newline then newline ∷ codes "    > " else byte ∷ []

-- a command, each of its further lines marked
abbrev pub command_text : List ℕ → List ℕ
command_text command = codes "    $ " ++ flat_map continued command

abbrev pub hidden_text : List ℕ → List ℕ
hidden_text name = codes "    < " ++ name

abbrev pub explicit_text : List ℕ → List ℕ
explicit_text name = codes "    : " ++ name

-- a line of the listing is a text and a newline
abbrev pub line : List ℕ → List ℕ
line text = text ++ newline ∷ []

-- a line for each command, then one for each hidden name, then one for each explicit name
abbrev pub plain_lines : (commands hidden names : List (List ℕ)) → List ℕ
plain_lines commands hidden names =
    flat_map (λ c. line (command_text c)) commands ++ flat_map (λ h. line (hidden_text h)) hidden ++ flat_map (λ n. line (explicit_text n)) names

-- ---- where marks say which files a target was made of

-- the mark of a file that the recipe made
abbrev pub file_line : Mark → List ℕ
file_line mark = line (codes "    = " ++ mark_text mark)

-- the mark of a name, below its line, where there is one
abbrev pub mark_below : Option Mark → List ℕ
mark_below None = []
mark_below (Some mark) = line (codes "      = " ++ mark_text mark)

-- a line for each name, this text in front, and its mark below: the first one's is the first of the marks
abbrev pub marked_lines : (front : List ℕ) → List (List ℕ) → List Mark → List ℕ
marked_lines front [] marks = []
marked_lines front (name ∷ names) marks = (line (front ++ name) ++ mark_below (slice_get marks 0)) ++ marked_lines front names (drop 1 marks)

-- the source, if there is one, and its mark below
abbrev pub source_lines : Option (List ℕ) → List Mark → List ℕ
source_lines None marks = []
source_lines (Some name) marks = line (codes "    ~ " ++ name) ++ mark_below (slice_get marks 0)

-- the marks of the target's files, then commands as ever, and then each name with its mark: the hidden ones, the source, and the
-- explicit ones
abbrev pub lines_with : (commands hidden names : List (List ℕ)) → Parted → List ℕ
lines_with commands hidden names marks =
    flat_map file_line marks.files ++ flat_map (λ c. line (command_text c)) commands ++ marked_lines (codes "    < ") hidden marks.hidden
    ++ source_lines marks.source marks.of_source ++ marked_lines (codes "    : ") names marks.explicit

-- where the marks can't be read, a line says so, and the others are as without marks
abbrev pub lines_by : (commands hidden names : List (List ℕ)) → Option Parted → List ℕ
lines_by commands hidden names None = line (codes "    = unreadable") ++ plain_lines commands hidden names
lines_by commands hidden names (Some marks) = lines_with commands hidden names marks

-- ---- what is listed of one name

-- the lines behind that of its phase, by what is said of its explicit names
abbrev pub lines_below : (commands hidden : List (List ℕ)) → Explicit → List ℕ
lines_below commands hidden Unknown = plain_lines commands hidden []
lines_below commands hidden (Known names) = plain_lines commands hidden names
lines_below commands hidden (Marked names text) = lines_by commands hidden names (parts_of text (length names) (length hidden))

-- a line with its phase, and those behind it
abbrev pub entry_lines : List ℕ × Entry → List ℕ
entry_lines e = line (phase_text e.0 e.1.phase) ++ lines_below e.1.commands e.1.hidden e.1.explicit

-- the listing of a state: the lines of each of its names, in byte order of the names (own)
abbrev pub listing : StateMap → List ℕ
listing m = flat_map entry_lines (map.entries m)
