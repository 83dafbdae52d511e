use Rattle.std.proofs.Common.{◌≡◌, drop, map}
use Rattle.mk_names.specs.Names.{name_at}
use Rattle.mk_seen.specs.Names.{are_same}
use Rattle.mk_seen.proofs.names.are_names_of.Given as goal

abbrev pub invariant-loop-node : goal.invariant-loop-node
invariant-loop-node l =
    are_same (map (name_at l.graph.names) (drop l.node-index l.nodes)) l.left ≡ are_same (map (name_at l.graph.names) l.nodes) l.fn.names
