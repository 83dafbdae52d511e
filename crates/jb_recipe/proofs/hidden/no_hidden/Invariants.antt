use Rattle.std.proofs.Common.{◌≡◌}
use Rattle.mk_names.specs.Names.{all_added}
use Rattle.jb_recipe.specs.Hidden.{no_hidden}
use Rattle.jb_recipe.proofs.hidden.no_hidden.Given as goal

abbrev pub invariant-loop-name : goal.invariant-loop-name
invariant-loop-name l = all_added l.names l.name-iterator ≡ no_hidden l.target l.known
