use Rattle.std.proofs.Common.{◌≡◌, ℕ, List, true, length, nat_eq, nat_lt, sym, ap, subst, ◌∙◌, arith}
use Rattle.std.specs.List.{IsDistinct, list_all}
use Rattle.mk_graph.specs.Counted.{joined}
use Rattle.mk_graph.specs.Cycle.{IsCycle}
use Rattle.mk_graph.specs.Edges.{is_closed}
use Rattle.mk_graph.specs.Plan.{IsPlan}
use Rattle.mk_graph.proofs.CycleLemmas.{no_cycle}
use Rattle.mk_graph.proofs.JoinLemmas.{length-joined}
use Rattle.mk_graph.proofs.PassedLemmas.{all_of_as_many}
use Rattle.mk_graph.proofs.cycles.order_both.Goals as goal

pub returns-then-len : goal.returns-then-len
returns-then-len c =
    let g = joined c.args.first.now c.args.second.now in
    let order = c.in_ok-order.order.items in
    let same = length-joined c.args.first.now c.args.second.now in
    let many : length order ≡ length g = omega arith in
    (no_cycle g order c.in_ok-order.ensures.plan (all_of_as_many (length g) order c.in_ok-order.ensures.once c.in_ok-order.ensures.nodes many), c.in_ok-order.ensures.plan)

pub cycle_beside-requires-clause-closed : goal.cycle_beside-requires-clause-closed
cycle_beside-requires-clause-closed c = ap is_closed c.in_ok-edges.ensures ∙ c.requires.closed

pub cycle_beside-requires-clause-plan : goal.cycle_beside-requires-clause-plan
cycle_beside-requires-clause-plan c =
    subst (λ g. IsPlan g c.deref.result.now) (sym c.in_ok-edges.ensures)
    (subst (IsPlan (joined c.args.first.now c.args.second.now)) (sym c.deref.ensures.value) c.in_ok-order.ensures.plan)

pub cycle_beside-requires-clause-once : goal.cycle_beside-requires-clause-once
cycle_beside-requires-clause-once c = subst (IsDistinct nat_eq) (sym c.deref.ensures.value) c.in_ok-order.ensures.once

pub cycle_beside-requires-clause-nodes : goal.cycle_beside-requires-clause-nodes
cycle_beside-requires-clause-nodes c =
    subst (λ (g : List (List ℕ)). list_all (λ n. nat_lt n (length g)) c.deref.result.now ≡ true) (sym c.in_ok-edges.ensures)
    (subst (λ (order : List ℕ). list_all (λ n. nat_lt n (length (joined c.args.first.now c.args.second.now))) order ≡ true) (sym c.deref.ensures.value) c.in_ok-order.ensures.nodes)

pub cycle_beside-requires-clause-left : goal.cycle_beside-requires-clause-left
cycle_beside-requires-clause-left c = λ same.
    let many = ap length c.in_ok-edges.ensures ∙ length-joined c.args.first.now c.args.second.now in
    let all = ap length c.deref.ensures.value in
    let left = c.if-len.false in
    absurd (omega arith)

pub returns : goal.returns
returns c = subst (λ g. IsCycle g c.in_ok-cycle_beside.field-0.items) c.in_ok-edges.ensures c.in_ok-cycle_beside.ensures
