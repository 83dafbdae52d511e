use Rattle.std.proofs.Common.{◌≡◌, ◌||◌, List, ℕ}
use Rattle.mk_recipe.specs.Report.{has}
use Rattle.mk_recipe.proofs.report.add_all.Given as goal

abbrev pub invariant-loop-name : goal.invariant-loop-name
invariant-loop-name l = (name : List ℕ) → (has name l.names || has name l.name-iterator) ≡ (has name l.fn.names || has name l.added)
