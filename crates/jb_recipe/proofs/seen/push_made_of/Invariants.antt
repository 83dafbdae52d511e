use Rattle.std.proofs.Common.{◌≡◌, ◌++◌, map, drop}
use Rattle.mk_graph.specs.Edges.{row}
use Rattle.jb_recipe.specs.Seen.{sight_at}
use Rattle.jb_recipe.proofs.seen.push_made_of.Given as goal

-- what there is, and what the others come to
abbrev pub invariant-loop-prerequisite : goal.invariant-loop-prerequisite
invariant-loop-prerequisite l =
    l.sights.items ++ map (sight_at l.graph) (drop l.prerequisite-index (row l.graph.hard l.node))
    ≡ l.fn.sights.items ++ map (sight_at l.graph) (row l.graph.hard l.node)
