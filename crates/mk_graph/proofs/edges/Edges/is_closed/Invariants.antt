use Rattle.std.proofs.Common.{◌≡◌, true, length, nat_lt, take}
use Rattle.std.specs.List.{list_all}
use Rattle.mk_graph.proofs.edges.Edges.is_closed.Given as goal

-- so far
abbrev pub invariant-loop-node : goal.invariant-loop-node
invariant-loop-node l = list_all (λ ns. list_all (λ n. nat_lt n (length l.self)) ns) (take l.node l.self) ≡ true
