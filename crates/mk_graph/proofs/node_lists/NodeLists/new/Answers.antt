use Rattle.std.proofs.Common.{◌≡◌, ℕ, ◌<◌, ◌^◌, List, [], replicate, sym, ap, ◌∙◌, subst, arith}
use Rattle.mk_graph.specs.Edges.{row}
use Rattle.mk_graph.specs.NodeLists.{lists_of, AreLists}
use Rattle.mk_graph.proofs.NodeListLemmas.{none_listed, empty_lists}
use Rattle.mk_graph.proofs.node_lists.NodeLists.new.Goals as goal

made : (heads next : List ℕ) (n : ℕ) → n < 2 ^ 32 → heads ≡ replicate n 0 → next ≡ replicate n 0 → AreLists heads next
made heads next n few a b = subst (λ l. AreLists l next) (sym a) (subst (AreLists (replicate n 0)) (sym b) (empty_lists n few))

empty : (heads next : List ℕ) (n : ℕ) → n < 2 ^ 32 → heads ≡ replicate n 0 → next ≡ replicate n 0 → (p : ℕ) → row (lists_of heads next) p ≡ []
empty heads next n few a b p = ap (λ l. row (lists_of l next) p) a ∙ ap (λ l. row (lists_of (replicate n 0) l) p) b ∙ none_listed n few p

pub invariant_of-result : goal.invariant_of-result
invariant_of-result c = made _ _ c.args.nodes (omega arith) (c.in_ok-from_elem.ensures.items_if_clones_equal (λ y e. e)) (c.in_ok-from_elem-2.ensures.items_if_clones_equal (λ y e. e))

pub returns-clause-empty : goal.returns-clause-empty
returns-clause-empty c = empty _ _ c.args.nodes (omega arith) (c.in_ok-from_elem.ensures.items_if_clones_equal (λ y e. e)) (c.in_ok-from_elem-2.ensures.items_if_clones_equal (λ y e. e))
