use Rattle.std.specs.Prelude.{find}
use Rattle.std.proofs.Common.{◌≡◌, drop}
use Rattle.mk_makefile.specs.Doubles.{is_double_recipe_at}
use Rattle.mk_makefile.proofs.doubles.first_double.Given as goal

abbrev pub invariant-loop-number : goal.invariant-loop-number
invariant-loop-number l = find (is_double_recipe_at l.lines) (drop l.number-index l.numbers) ≡ find (is_double_recipe_at l.lines) l.numbers
