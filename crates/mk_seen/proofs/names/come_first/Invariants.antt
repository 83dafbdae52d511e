use Rattle.std.proofs.Common.{◌≡◌, drop, map}
use Rattle.mk_names.specs.Names.{name_at}
use Rattle.mk_seen.specs.Names.{come_first}
use Rattle.mk_seen.proofs.names.come_first.Given as goal

abbrev pub invariant-loop-node : goal.invariant-loop-node
invariant-loop-node l =
    come_first (map (name_at l.graph.names) (drop l.node-index l.nodes)) l.left ≡ come_first (map (name_at l.graph.names) l.nodes) l.fn.names
