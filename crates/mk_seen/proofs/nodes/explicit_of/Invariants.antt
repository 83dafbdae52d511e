use Rattle.std.proofs.Common.{◌≡◌, ◌++◌, map, drop}
use Rattle.mk_graph.specs.Edges.{row}
use Rattle.mk_names.specs.Names.{name_at}
use Rattle.mk_nodes.specs.Node.{explicit_in}
use Rattle.mk_seen.specs.Nodes.{node_at, explicit_of}
use Rattle.mk_seen.proofs.nodes.explicit_of.Given as goal

abbrev pub invariant-loop-prerequisite : goal.invariant-loop-prerequisite
invariant-loop-prerequisite l =
    l.names ++ map (name_at l.graph.names) (drop l.prerequisite-index (explicit_in (node_at l.graph l.node) (row l.graph.hard l.node))) ≡ explicit_of l.graph l.node
