use Rattle.std.proofs.Common.{◌≡◌, ◌++◌, map, drop}
use Rattle.mk_graph.specs.Edges.{row}
use Rattle.mk_names.specs.Names.{name_at}
use Rattle.mk_plan.specs.ExplicitWords.{once_of}
use Rattle.mk_plan.proofs.change.hard_names.Given as goal

abbrev pub invariant-loop-prerequisite : goal.invariant-loop-prerequisite
invariant-loop-prerequisite l =
    l.names ++ map (name_at l.graph.names) (drop l.prerequisite-index (row l.graph.hard l.node)) ≡ once_of l.graph l.node
