use Rattle.std.proofs.Common.{◌≡◌, ℕ, List, ◌++◌, length}
use Rattle.mk_lines.specs.Search.{comes_to}
use Rattle.mk_lines.proofs.recipe_search.RecipeSearch.past.Given as goal

abbrev pub invariant-loop-byte : goal.invariant-loop-byte
invariant-loop-byte l = (more : List ℕ) → comes_to l.search (l.rest ++ more) ≡ comes_to l.fn.self (l.bytes ++ more)

abbrev pub decreases-loop-byte : goal.decreases-loop-byte
decreases-loop-byte l = length l.rest
