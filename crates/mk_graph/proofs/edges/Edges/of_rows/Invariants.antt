use Rattle.std.proofs.Common.{◌≡◌, map, take}
use Rattle.mk_graph.proofs.edges.Edges.of_rows.Given as goal

-- the rows so far
abbrev pub invariant-loop-row : goal.invariant-loop-row
invariant-loop-row l = l.edges ≡ map (λ r. r.items) (take l.row-index l.rows)
