use Rattle.std.proofs.Common.{◌≡◌, map, take}
use Rattle.mk_names.specs.Names.{name_at}
use Rattle.mk_edges.proofs.ordering.cycle_names.Given as goal

abbrev pub invariant-loop-node : goal.invariant-loop-node
invariant-loop-node l = l.list ≡ map (name_at l.names) (take l.node-index l.cycle)
