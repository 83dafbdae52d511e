use Rattle.std.proofs.Common.{inl}
use Rattle.mk_graph.specs.Counted.{joined}
use Rattle.mk_graph.proofs.CountedLemmas.{HasCycle-wider, wider_joined, closed_joined}
use Rattle.mk_graph.proofs.counting.counted_order.Goals as goal

pub order_both-requires-clause-closed : goal.order_both-requires-clause-closed
order_both-requires-clause-closed c = closed_joined c.args.hard.now c.args.soft.now c.requires.nodes c.requires.hard c.requires.soft

pub returns-in-Plan-clause-dropped : goal.returns-in-Plan-clause-dropped
returns-in-Plan-clause-dropped c = let found = rw c.in-Plan.is at c.in_ok-order.ensures in inl found.0

pub returns-in-Plan-clause-order : goal.returns-in-Plan-clause-order
returns-in-Plan-clause-order c =
    let hard = c.args.hard.now in
    let soft = c.args.soft.now in
    let found = rw c.in-Plan.is at c.in_ok-order.ensures in
    (λ cycle. found.0 (HasCycle-wider hard (joined hard soft) (wider_joined hard soft c.requires.nodes) cycle), found.0, found.1)

pub order_hard-requires-clause-cycle : goal.order_hard-requires-clause-cycle
order_hard-requires-clause-cycle c = let found = rw c.in-Cycle.is at c.in_ok-order.ensures in (c.in-Cycle.field-0.items, found)
