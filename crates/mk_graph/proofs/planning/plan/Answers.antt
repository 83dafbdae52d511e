use Rattle.std.proofs.Common.{◌≡◌, ℕ, List, true, length, nat_lt, subst}
use Rattle.std.proofs.lemmas.Result.{IfOk-weaker}
use Rattle.std.specs.List.{list_all}
use Rattle.mk_graph.specs.Counted.{joined}
use Rattle.mk_graph.specs.Plan.{IsPlan}
use Rattle.mk_graph.proofs.planning.plan.Goals as goal

pub returns-clause-plan : goal.returns-clause-plan
returns-clause-plan c =
    let g = c.args.edges.now in
    let both = joined g c.in_ok-none.none in
    IfOk-weaker c.plan_both.result (λ order. IsPlan both order.items) (λ order. IsPlan g order.items)
    (λ order is. subst (λ h. IsPlan h order.items) c.in_ok-none.ensures.joined is) c.plan_both.ensures.plan

pub returns-clause-nodes : goal.returns-clause-nodes
returns-clause-nodes c =
    let g = c.args.edges.now in
    let both = joined g c.in_ok-none.none in
    IfOk-weaker c.plan_both.result (λ order. list_all (λ n. nat_lt n (length both)) order.items ≡ true) (λ order. list_all (λ n. nat_lt n (length g)) order.items ≡ true)
    (λ order is. subst (λ (h : List (List ℕ)). list_all (λ n. nat_lt n (length h)) order.items ≡ true) c.in_ok-none.ensures.joined is) c.plan_both.ensures.nodes
