use Rattle.std.proofs.Common.{◌≡◌, ◌++◌, length}
use Rattle.mk_gnu_items.proofs.rules.copied_recipe.Given as goal

abbrev pub invariant-loop-line : goal.invariant-loop-line
invariant-loop-line l = l.copy ++ l.rest ≡ l.recipe

abbrev pub decreases-loop-line : goal.decreases-loop-line
decreases-loop-line l = length l.rest
