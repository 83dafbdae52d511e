use Rattle.std.proofs.Common.{◌≡◌, ◌++◌, map, drop}
use Rattle.mk_graph.specs.Edges.{row}
use Rattle.mk_names.specs.Names.{name_at}
use Rattle.jb_recipe.specs.Noting.{known_of}
use Rattle.jb_recipe.proofs.noting.known_of.Given as goal

-- the names so far, and those of the rest
abbrev pub invariant-loop-prerequisite : goal.invariant-loop-prerequisite
invariant-loop-prerequisite l =
    l.names ++ map (name_at l.graph.names) (drop l.prerequisite-index (row l.graph.hard l.node)) ≡ known_of l.graph l.node
