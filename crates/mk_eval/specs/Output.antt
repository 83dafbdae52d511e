-- What the outside answers while makefiles are read, and the text that a command's output gives a name.
use Rattle.std.specs.Prelude.{ℕ, List, ◌∷◌, ◌++◌, codes, Option, map, reverse, if◌then◌else◌}
use Rattle.mk_lines.specs.Text.{is_newline, begins_with, without_last}
use Rattle.mk_wildcards.specs.Found.{Folders}

-- each file, by its name, that can be read holds this, each command writes this that a definition of this line of this file runs, and these
-- names are in each folder. A command has the shell that runs it in front, in a line of its own
pub record World : Type 0 where
  pub files : (name : List ℕ) → Option (List ℕ)
  pub outputs : (file : List ℕ) (line : ℕ) (command : List ℕ) → List ℕ
  pub folders : Folders

-- what a definition's text is expanded behind: the shell, and the end of its line
abbrev pub with_shell : (text : List ℕ) → List ℕ
with_shell text = codes "$(SHELL)" ++ 10 ∷ text

-- without the newline at its end, where it has one
abbrev pub without_newline : List ℕ → List ℕ
without_newline output = if begins_with 10 (reverse output) then without_last output else output

abbrev pub blank_for_newline : ℕ → ℕ
blank_for_newline b = if is_newline b then 32 else b

-- what an output gives as a text: the newline at its end is dropped, and each other one is a blank (GNU make, "Setting Variables")
abbrev pub output_text : List ℕ → List ℕ
output_text output = map blank_for_newline (without_newline output)
