-- The lines of a recipe that are too long for a record. Own.
use Rattle.std.specs.Prelude.{Bool, not, ◌&&◌, nat_lt, length}
use Rattle.mk_recipe.specs.Line.{is_blank_text}
use Rattle.mk_recipe.specs.declared.line.Line.{Line}
use Rattle.st_records.specs.declared.limits.TheConstants.{MAX_COMMAND_BYTES}

-- the state would keep the line's text, and has no room for so long a one
abbrev pub is_too_long : Line → Bool
is_too_long line = not line.is_exempt && not (is_blank_text line.text) && nat_lt MAX_COMMAND_BYTES (length line.text)
