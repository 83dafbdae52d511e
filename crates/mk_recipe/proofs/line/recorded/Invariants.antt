use Rattle.std.proofs.Common.{◌≡◌, take}
use Rattle.mk_recipe.specs.Tests.{recorded_texts}
use Rattle.mk_recipe.proofs.line.recorded.Given as goal

abbrev pub invariant-loop-line : goal.invariant-loop-line
invariant-loop-line l = l.commands ≡ recorded_texts (take l.line-index l.lines)
