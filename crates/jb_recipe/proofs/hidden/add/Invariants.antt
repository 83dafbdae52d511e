use Rattle.std.proofs.Common.{◌≡◌, ◌++◌, ℕ, List}
use Rattle.mk_names.specs.Names.{all_added}
use Rattle.jb_recipe.proofs.hidden.add.Given as goal

-- what is left adds what all do; what is new so far stands behind whatever stood in front
abbrev pub invariant-loop-name : goal.invariant-loop-name
invariant-loop-name l =
    (all_added l.names l.name-iterator ≡ all_added l.fn.names l.mentioned)
    × ((front : List (List ℕ)) → l.fn.names ≡ front ++ l.fn.found → l.names ≡ front ++ l.found)
