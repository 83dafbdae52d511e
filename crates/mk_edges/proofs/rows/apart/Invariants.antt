use Rattle.std.proofs.Common.{◌≡◌, map, take}
use Rattle.mk_edges.proofs.rows.apart.Given as goal

abbrev pub invariant-loop-node : goal.invariant-loop-node
invariant-loop-node l = map (λ r. r.items) l.rows.items ≡ take l.node l.edges
