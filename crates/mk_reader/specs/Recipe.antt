-- The lines of a recipe, as they are held.
use Rattle.std.specs.Prelude.{List, [], ◌∷◌}
use Rattle.mk_reader.specs.declared.item.Lines.{Lines}
use Rattle.mk_reader.specs.declared.item.Lines.TheVariants.{One, Many}
use Rattle.mk_reader.specs.declared.item.RecipeLine.{RecipeLine}

-- one line, or those of a vector
abbrev pub held_lines : Lines → List RecipeLine
held_lines (One line) = line ∷ []
held_lines (Many lines) = lines.items
