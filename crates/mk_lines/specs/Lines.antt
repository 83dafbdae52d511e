-- The lines of a text: physical lines as they are spelled, and logical lines, which go on behind a backslash.
use Rattle.std.specs.Prelude.{ℕ, ◌+◌, ◌%◌, min, Bool, true, false, ◌&&◌, ◌||◌, ◌==◌, List, [], ◌∷◌, ◌++◌, length, drop, map, flat_map, Option, Some, None, if◌then◌else◌}
use Rattle.std.specs.List.{suffix_len, slice_split, onto_first}
use Rattle.byte_strings.specs.Blanks.{trimmed_start}
use Rattle.mk_lines.specs.Text.{is_newline, is_backslash, begins_with, ends_with, without_last, without_tab}
use Rattle.mk_lines.specs.Semicolon.{opens_recipe}
use Rattle.mk_lines.specs.declared.line.Ending.{Ending}
use Rattle.mk_lines.specs.declared.line.Ending.TheVariants.{EndOfText, Newline, ReturnNewline}
use Rattle.mk_lines.specs.declared.line.PhysicalLine.{PhysicalLine}
use Rattle.mk_lines.specs.declared.line.LogicalLine.{LogicalLine}

-- a line of the text, and what ends it
pub record Physical : Type 0 where
  pub text : List ℕ
  pub ending : Ending

-- a physical line of the code, without where its text lies
abbrev pub physical : PhysicalLine → Physical
physical line = record { text = line.text.now; ending = line.ending }

abbrev pub ending_bytes : Ending → List ℕ
ending_bytes EndOfText = []
ending_bytes Newline = 10 ∷ []
ending_bytes ReturnNewline = 13 ∷ 10 ∷ []

-- the bytes that the line takes in the text
abbrev pub spelling : Physical → List ℕ
spelling line = line.text ++ ending_bytes line.ending

-- a line that a newline ends; a carriage return directly before the newline belongs to the ending
unfoldable pub ended_line : List ℕ → Physical
ended_line text = if ends_with 13 text then record { text = without_last text; ending = ReturnNewline } else record { text = text; ending = Newline }

-- the physical lines, of what stands between newlines
abbrev pub physical_lines : List (List ℕ) → List Physical
physical_lines [] = []
physical_lines (text ∷ []) = record { text = text; ending = EndOfText } ∷ []
physical_lines (text ∷ next ∷ more) = ended_line text ∷ physical_lines (next ∷ more)

-- the physical lines of what is left of a text, if anything is
unfoldable pub lines_left : Option (List ℕ) → List Physical
lines_left None = []
lines_left (Some bytes) = physical_lines (slice_split is_newline bytes)

abbrev pub has_newline : Ending → Bool
has_newline EndOfText = false
has_newline Newline = true
has_newline ReturnNewline = true

-- how much is left of a text; nothing is less than an empty rest
abbrev pub size_left : Option (List ℕ) → ℕ
size_left None = 0
size_left (Some bytes) = length bytes + 1

-- an odd number of backslashes stands before the newline
unfoldable pub goes_on : Physical → Bool
goes_on line = has_newline line.ending && (suffix_len is_backslash line.text % 2 == 1)

-- the physical lines, grouped: each but the last of a group goes on in the next
abbrev pub groups : List Physical → List (List Physical)
groups [] = []
groups (line ∷ more) = if goes_on line then onto_first line (groups more) else (line ∷ []) ∷ groups more

-- the physical lines in which one goes on
abbrev pub rest_of_group : Physical → List Physical → List Physical
rest_of_group line [] = []
rest_of_group line (next ∷ more) = if goes_on line then next ∷ rest_of_group next more else []

-- the physical lines behind those in which one goes on
abbrev pub after_group : Physical → List Physical → List Physical
after_group line [] = []
after_group line (next ∷ more) = if goes_on line then after_group next more else next ∷ more

-- the line without the backslash by which it goes on
unfoldable pub body : Physical → List ℕ
body line = if goes_on line then without_last line.text else line.text

-- how a line begins the text of a logical line: a recipe line is without its TAB
unfoldable pub opening : Bool → Physical → List ℕ
opening true line = drop 1 (body line)
opening false line = body line

-- how a line stands behind one that goes on. In a recipe, backslash and newline stay and one TAB is dropped;
-- elsewhere backslash, newline and the blanks that follow become one space.
unfoldable pub joint : Bool → Physical → List ℕ
joint true line = 92 ∷ 10 ∷ without_tab (body line)
joint false line = 32 ∷ trimmed_start (body line)

-- the text of a recipe line, or of a line that no recipe belongs to
unfoldable pub joined_text : Bool → List Physical → List ℕ
joined_text recipe [] = []
joined_text recipe (line ∷ more) = opening recipe line ++ flat_map (joint recipe) more

-- what follows this text in a logical line belongs to a recipe: that of a recipe line, or in the wide profile that of a rule line behind its `;`
unfoldable pub in_recipe : (recipe wide : Bool) → List ℕ → Bool
in_recipe recipe wide text = recipe || (wide && opens_recipe text)

-- this text with the lines that follow it in a logical line
abbrev pub joined_behind : (recipe wide : Bool) → List ℕ → List Physical → List ℕ
joined_behind recipe wide text [] = text
joined_behind recipe wide text (line ∷ more) = joined_behind recipe wide (text ++ joint (in_recipe recipe wide text) line) more

-- the text of a logical line of a makefile, as it is read; IsTextOf says what it is
unfoldable pub text_of : (recipe wide : Bool) → List Physical → List ℕ
text_of recipe wide [] = []
text_of recipe wide (line ∷ more) = joined_behind recipe wide (opening recipe line) more

-- a group whose first byte is a TAB is a recipe line
abbrev pub is_recipe : List Physical → Bool
is_recipe [] = false
is_recipe (line ∷ _) = begins_with 9 line.text

-- the number of the line after so many more, in 64 bits: numbers stop at the greatest
unfoldable pub number_after : ℕ → ℕ → ℕ
number_after number lines = min (number + lines) 18446744073709551615

unfoldable pub logical_line : (wide : Bool) → ℕ → List Physical → LogicalLine
logical_line wide number group = record { number = number; is_recipe = is_recipe group; text = text_of (is_recipe group) wide group }

-- the logical lines, each with the number of its first physical line
abbrev pub numbered : (wide : Bool) → ℕ → List (List Physical) → List LogicalLine
numbered wide number [] = []
numbered wide number (group ∷ more) = logical_line wide number group ∷ numbered wide (number_after number (length group)) more

-- the logical lines of what is left of a text
unfoldable pub logical_lines : (wide : Bool) → ℕ → Option (List ℕ) → List LogicalLine
logical_lines wide number left = numbered wide number (groups (lines_left left))

-- the lines of what is left of a text, each joined as one that is no recipe line
unfoldable pub joined_lines : Option (List ℕ) → List (List ℕ)
joined_lines left = map (joined_text false) (groups (lines_left left))
