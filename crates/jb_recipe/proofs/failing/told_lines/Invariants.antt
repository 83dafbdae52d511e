use Rattle.std.proofs.Common.{◌≡◌, ◌++◌, drop}
use Rattle.jb_recipe.specs.Failing.{told_from}
use Rattle.jb_recipe.proofs.failing.told_lines.Given as goal

-- what is told of the lines so far, and of the others
abbrev pub invariant-loop-number : goal.invariant-loop-number
invariant-loop-number l = l.told.items ++ told_from l.number (drop l.number l.lines) ≡ told_from 0 l.lines
