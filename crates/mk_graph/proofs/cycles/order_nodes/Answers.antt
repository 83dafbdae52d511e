use Rattle.std.proofs.Common.{ap, subst, ◌∙◌}
use Rattle.std.proofs.lemmas.Result.{IfOk-weaker}
use Rattle.mk_graph.specs.Edges.{is_closed}
use Rattle.mk_graph.specs.Counted.{joined}
use Rattle.mk_graph.specs.Order.{IsOrder}
use Rattle.mk_graph.proofs.cycles.order_nodes.Goals as goal

pub order_both-requires-clause-closed : goal.order_both-requires-clause-closed
order_both-requires-clause-closed c = ap is_closed c.in_ok-none.ensures.joined ∙ c.requires

pub returns : goal.returns
returns c =
    IfOk-weaker c.order_both.result (IsOrder (joined c.args.edges.now c.in_ok-none.none)) (IsOrder c.args.edges.now)
    (λ order is. subst (λ g. IsOrder g order) c.in_ok-none.ensures.joined is) c.order_both.ensures
