-- The text of a logical line: as it stands, and joined (GNU make manual, "Splitting Long Lines" and "Splitting Recipe Lines"; GNU make 4.3).
use Rattle.std.specs.Prelude.{◌≡◌, ℕ, ◌-◌, ◌/◌, true, List, [], ◌∷◌, ◌++◌, take, length, flat_map, Option, Some, if◌then◌else◌}
use Rattle.std.specs.List.{suffix_len}
use Rattle.byte_strings.specs.Blanks.{trimmed_start, trimmed_end}
use Rattle.mk_lines.specs.Text.{is_backslash}
use Rattle.mk_lines.specs.Lines.{Physical, goes_on, body, joint, lines_left, groups, number_after}
use Rattle.mk_lines.specs.declared.line.Ending as lines
use Rattle.mk_lines.specs.declared.line.Ending.TheVariants as ends
use Rattle.mk_statements.specs.declared.physical.Ending.{Ending}
use Rattle.mk_statements.specs.declared.physical.Ending.TheVariants.{EndOfText, Newline, ReturnNewline}
use Rattle.mk_statements.specs.declared.physical.PhysicalLine.{PhysicalLine}
use Rattle.mk_statements.specs.declared.logical.LogicalText.{LogicalText}

abbrev pub ending_of : Ending → lines.Ending
ending_of EndOfText = ends.EndOfText
ending_of Newline = ends.Newline
ending_of ReturnNewline = ends.ReturnNewline

-- a physical line of the code, without where its text lies
abbrev pub physical : PhysicalLine → Physical
physical line = record { text = line.text.now; ending = ending_of line.ending }

-- as it stands: backslashes and newlines stay, and one TAB behind each of these newlines is dropped
unfoldable pub kept : List Physical → List ℕ
kept [] = []
kept (line ∷ more) = body line ++ flat_map (joint true) more

-- of the backslashes before a newline that they quote, half are left
unfoldable pub before_newline : Physical → List ℕ
before_newline line =
    if goes_on line then take (length line.text - (suffix_len is_backslash line.text - suffix_len is_backslash line.text / 2)) line.text else line.text

-- a line behind this text
abbrev pub with_line : List ℕ → Physical → List ℕ
with_line text line = trimmed_end text ++ 32 ∷ trimmed_start (before_newline line)

abbrev pub joined_behind : List ℕ → List Physical → List ℕ
joined_behind text [] = text
joined_behind text (line ∷ more) = joined_behind (with_line text line) more

-- joined: a newline with the blanks around it is one space
unfoldable pub joined : List Physical → List ℕ
joined [] = []
joined (line ∷ more) = joined_behind (before_newline line) more

-- the texts of the logical line that these bytes begin with, the number of the line behind it, and what is left there
pub record IsNext (number : ℕ) (bytes : List ℕ) (text : LogicalText) (next : ℕ) (left : Option (List ℕ)) : Type 0 where
  pub group : List Physical
  pub front : groups (lines_left (Some bytes)) ≡ group ∷ groups (lines_left left)
  pub as_it_stands : text.kept ≡ kept group
  pub in_one : text.joined ≡ joined group
  pub numbers : next ≡ number_after number (length group)
