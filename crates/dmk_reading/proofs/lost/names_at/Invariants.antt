use Rattle.std.proofs.Common.{◌≡◌, map, take}
use Rattle.mk_names.specs.Names.{name_at}
use Rattle.dmk_reading.proofs.lost.names_at.Given as goal

abbrev pub invariant-loop-node : goal.invariant-loop-node
invariant-loop-node l = map (λ u. u.name) l.told.items ≡ map (name_at l.graph.names) (take l.node-index l.nodes)
