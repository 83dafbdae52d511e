use Rattle.std.proofs.Common.{◌≡◌, true, false, length, nat_lt}
use Rattle.std.specs.List.{list_all}
use Rattle.jb_order.proofs.OrderLemmas.{HasAlsoTo}
use Rattle.jb_order.proofs.in_order.edges_behind.Given as goal

abbrev pub invariant-loop-node : goal.invariant-loop-node
invariant-loop-node l =
    (length l.more ≡ l.node)
    × (l.dropped ≡ false → HasAlsoTo l.node l.soft l.more)
    × (list_all (λ ns. list_all (λ n. nat_lt n (length l.soft)) ns) l.more ≡ true)
