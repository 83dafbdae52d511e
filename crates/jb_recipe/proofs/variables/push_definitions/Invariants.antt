use Rattle.std.proofs.Common.{◌≡◌, ◌++◌, filter, take}
use Rattle.jb_recipe.specs.Environment.{is_passed_on}
use Rattle.jb_recipe.proofs.variables.push_definitions.Given as goal

-- those of the definitions so far that are passed on
abbrev pub invariant-loop-definition : goal.invariant-loop-definition
invariant-loop-definition l = l.variables.items ≡ l.fn.variables.items ++ filter is_passed_on (take l.definition-index l.definitions)
