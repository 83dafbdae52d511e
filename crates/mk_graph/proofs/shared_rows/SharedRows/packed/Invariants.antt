use Rattle.std.proofs.Common.{◌≡◌, take}
use Rattle.mk_graph.proofs.shared_rows.SharedRows.packed.Given as goal

-- the rows so far
abbrev pub invariant-loop-node : goal.invariant-loop-node
invariant-loop-node l = l.rows ≡ take l.node l.self
