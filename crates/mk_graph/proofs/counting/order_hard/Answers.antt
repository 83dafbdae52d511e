use Rattle.std.proofs.Common.{inr}
use Rattle.mk_graph.proofs.counting.order_hard.Goals as goal

pub returns-in-Plan-clause-dropped : goal.returns-in-Plan-clause-dropped
returns-in-Plan-clause-dropped c = let found = rw c.in-Plan.is at c.in_ok-order.ensures in (c.requires.cycle, found.0)

pub returns-in-Plan-clause-order : goal.returns-in-Plan-clause-order
returns-in-Plan-clause-order c = let found = rw c.in-Plan.is at c.in_ok-order.ensures in (found.0, found.0, found.1)

pub returns-in-Cycle-clause-dropped : goal.returns-in-Cycle-clause-dropped
returns-in-Cycle-clause-dropped c = let found = rw c.in-Cycle.is at c.in_ok-order.ensures in inr (c.in-Cycle.cycle.items, found)

pub returns-in-Cycle-clause-order : goal.returns-in-Cycle-clause-order
returns-in-Cycle-clause-order c = let found = rw c.in-Cycle.is at c.in_ok-order.ensures in found
