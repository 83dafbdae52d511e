use Rattle.std.proofs.Common.{◌≡◌, map, drop}
use Rattle.mk_names.specs.Names.{all_added, name_at}
use Rattle.mk_plan.proofs.why.mention_nodes.Given as goal

abbrev pub invariant-loop-node : goal.invariant-loop-node
invariant-loop-node l =
    all_added l.names (map (name_at l.graph.names) (drop l.node-index l.nodes)) ≡ all_added l.fn.names (map (name_at l.graph.names) l.nodes)
