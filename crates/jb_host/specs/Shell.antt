-- Shells, by the names that makefiles have for them.
use Rattle.std.specs.Prelude.{ℕ, List, [], ◌∷◌, ◌++◌, codes}
use Rattle.byte_strings.specs.Blanks.{words}

-- the words of a name; where it has none, those of the usual shell
abbrev pub or_usual : List (List ℕ) → List (List ℕ)
or_usual [] = codes "/bin/sh" ∷ []
or_usual (program ∷ arguments) = program ∷ arguments

-- what is started where the shell of this name runs a text: a program and its arguments (POSIX make, "Macros": SHELL; GNU make manual,
-- "Choosing the Shell")
abbrev pub started : (shell text : List ℕ) → List (List ℕ)
started shell text = or_usual (words shell) ++ codes "-c" ∷ text ∷ []
