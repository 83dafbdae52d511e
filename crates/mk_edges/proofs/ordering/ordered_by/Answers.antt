use Rattle.std.proofs.Common.{◌≡◌, ℕ, List, true, length, nat_lt, sym, subst}
use Rattle.std.specs.Prelude.{unwrap_or}
use Rattle.std.specs.List.{list_all}
use Rattle.mk_graph.specs.Counted.{IsDropped}
use Rattle.mk_graph.specs.Cycle.{IsCycle}
use Rattle.mk_graph.specs.Order.{IsCountedOrder}
use Rattle.mk_edges.proofs.RowLaws.{cycle_below}
use Rattle.mk_edges.proofs.ordering.ordered_by.Goals as goal

pub cycle_names-requires : goal.cycle_names-requires
cycle_names-requires c =
    let edges : List (List ℕ) = unwrap_or c.args.required c.args.hard in
    let ordered = subst (λ h. IsCountedOrder h c.args.soft c.in_ok-dropped.field-0.dropped c.in_ok-dropped.field-0.order) c.required_or.ensures c.in_ok-dropped.ensures.order in
    let cycle : IsCycle edges c.in-Cycle.cycle.items = subst (IsCountedOrder edges c.args.soft c.in_ok-dropped.field-0.dropped) c.in-Cycle.is ordered in
    let below : list_all (λ m. nat_lt m (length edges)) c.in-Cycle.cycle.items ≡ true = cycle_below edges c.requires.required_closed c.in-Cycle.cycle.items cycle in
    subst (λ (l : ℕ). list_all (λ m. nat_lt m l) c.deref.result.now ≡ true) c.requires.required_count
    (subst (λ (ns : List ℕ). list_all (λ m. nat_lt m (length edges)) ns ≡ true) (sym c.deref.ensures.value) below)

pub returns-in-Plan-clause-dropped : goal.returns-in-Plan-clause-dropped
returns-in-Plan-clause-dropped c =
    subst (λ h. IsDropped h c.args.soft c.in_ok-dropped.field-0.dropped) c.required_or.ensures c.in_ok-dropped.ensures.dropped
