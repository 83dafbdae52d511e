-- The lines of a recipe as a run has them (make(1S), -s and .SILENT).
use Rattle.std.specs.Prelude.{Bool, true, false, List, map}
use Rattle.mk_recipe.specs.declared.line.Line.{Line}

-- the line, not printed. What the shell is given, whether `-` ignores its status and whether it is exempt stay
abbrev pub unprinted : Line → Line
unprinted line = record line { is_printed = false }

-- the lines of a recipe in a run: a silent one prints none of them; else they are as they were
abbrev pub as_run : (silent : Bool) → List Line → List Line
as_run true lines = map unprinted lines
as_run false lines = lines
