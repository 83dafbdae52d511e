use Rattle.std.proofs.Common.{◌≡◌, map}
use Rattle.jb_recipe.specs.Silence.{unprinted}
use Rattle.jb_recipe.proofs.SilenceLemmas.{silenced_from}
use Rattle.jb_recipe.proofs.silence.unprinted.Given as goal

abbrev pub invariant-loop-line : goal.invariant-loop-line
invariant-loop-line l = silenced_from l.line-index l.line-items ≡ map unprinted l.fn.lines.items
