use Rattle.std.proofs.Common.{◌≡◌, ℕ, ◌<◌, Bool, true, false, List, Vec, Global, [], ◌∷◌, ◌++◌, length, get_or, nat_eq, nat_le, sym, ap, ◌∙◌, subst, arith}
use Rattle.std.proofs.lemmas.Result.{IfOk-weaker}
use Rattle.std.specs.List.{IsDistinct, list_all}
use Rattle.mk_graph.specs.Cycle.{IsCycle}
use Rattle.mk_graph.specs.Edges.{row, has}
use Rattle.mk_graph.specs.Ring.{IsRing}
use Rattle.mk_graph.proofs.CycleLemmas.{onward, cycle_from_ring}
use Rattle.mk_graph.proofs.PlanLemmas.{length_of_passed}
use Rattle.mk_graph.proofs.PassedLemmas.{as_many_of_all}
use Rattle.mk_graph.proofs.cycles.cycle_beside.Goals as goal

pub unreachable-requires : goal.unreachable-requires
unreachable-requires c =
    let g = c.args.edges.now in
    let order = c.args.order.now in
    let all : (q : ℕ) → q < length g → has order q ≡ true
    = λ q lt.
    sym (c.in_ok-passed.ensures.set q (omega arith))
    ∙ ap (λ l. get_or l q false) (sym c.deref.ensures.value)
    ∙ c.in_default.ensures.none q (let e : length c.deref.result.now ≡ length g = ap length c.deref.ensures.value ∙ c.in_ok-passed.ensures.len ∙ c.len.ensures in omega arith) in
    let many = as_many_of_all (length g) order c.requires.nodes all in
    let few = length_of_passed g order c.requires.once c.requires.nodes in
    absurd (c.requires.left (omega (arith, many, few)))

pub walk-requires-clause-onward : goal.walk-requires-clause-onward
walk-requires-clause-onward c =
    let g = c.args.edges.now in
    let passed = c.in_ok-passed.passed.items in
    let order = c.args.order.now in
    let P : List Bool → Type 0 = λ marks. (q : ℕ) → q < length g → get_or marks q false ≡ false → list_all (λ n. get_or marks n false) (row g q) ≡ false in
    subst P (sym c.deref-2.ensures.value)
    (onward g order passed c.requires.closed c.requires.plan
    (λ q lt. c.in_ok-passed.ensures.set q (omega arith)))

pub returns : goal.returns
returns c =
    let g = c.args.edges.now in
    let ring = c.deref-3.result.now in
    let Turned : Vec ℕ Global → Type 0 = λ cycle. (front : List ℕ) × (least : ℕ) × (behind : List ℕ)
    × (ring ≡ front ++ least ∷ behind) × (list_all (nat_le least) ring ≡ true) × (cycle.items ≡ least ∷ ((behind ++ front) ++ least ∷ [])) in
    IfOk-weaker c.from_least.result Turned (λ cycle. IsCycle g cycle.items)
    (λ cycle f. cycle_from_ring g ring f.0 f.1 f.2 cycle.items f.3 (subst (IsRing g) (sym c.deref-3.ensures.value) c.in_ok-ring.ensures.ring)
    (subst (IsDistinct nat_eq) (sym c.deref-3.ensures.value) c.in_ok-ring.ensures.once) f.4 f.5) c.from_least.ensures
