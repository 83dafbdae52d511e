use Rattle.std.proofs.Common.{◌≡◌, ◌++◌, drop}
use Rattle.std.specs.List.{flat_map}
use Rattle.dmk_reading.specs.Base.{recipe_line}
use Rattle.dmk_reading.proofs.base.append_recipe.Given as goal

abbrev pub invariant-loop-line : goal.invariant-loop-line
invariant-loop-line l = l.text.items ++ flat_map recipe_line (drop l.line-index l.lines) ≡ l.fn.text.items ++ flat_map recipe_line l.lines
