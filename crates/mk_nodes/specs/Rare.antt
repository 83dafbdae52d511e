-- What few nodes have.
use Rattle.std.specs.Prelude.{Bool, Option, Some, None, Vec}
use Rattle.std.specs.Global.{Box, Global}
use Rattle.mk_nodes.specs.declared.rare.Rare.{Rare}

-- the parts of a node that has none of them
abbrev pub no_parts : Rare
no_parts = record { stem = None; implied = 0; group = None; required = None; marks = None }

abbrev pub parts_kept : Option (Box Rare) → Rare
parts_kept None = no_parts
parts_kept (Some rare) = rare.value

-- the parts with these marks of hidden prerequisites
abbrev pub with_marks : Option (Box (Vec Bool Global)) → Rare → Rare
with_marks marks rare = record { stem = rare.stem; implied = rare.implied; group = rare.group; required = rare.required; marks = marks }
