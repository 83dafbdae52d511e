-- What stays true while the nodes of a graph are passed, and what its order says.
use Rattle.std.proofs.Common.{◌≡◌, ◌+◌, inl, inr, ℕ, Bool, true, false, not, ◌&&◌, ◌||◌, nat_lt, List, [], ◌∷◌, ◌++◌, length, drop, set, refl, sym, ap, ◌∙◌, subst, append_assoc}
use Rattle.std.proofs.lemmas.Bool.{and_parts, and_from}
use Rattle.std.specs.List.{list_all}
use Rattle.std.specs.Bool.{if◌then◌else◌}
use Rattle.mk_graph.specs.Counted.{counting, IsDropped}
use Rattle.mk_graph.specs.Cycle.{HasCycle}
use Rattle.mk_graph.specs.Edges.{row, has, times}
use Rattle.mk_graph.specs.Plan.{IsPlanAfter}
use Rattle.mk_graph.proofs.WholeLemmas.{whole_plan}
use Rattle.mk_nodes.specs.Graph.{IsGraph, required_in, counting_in}
use Rattle.mk_nodes.specs.Prerequisites.{Inputs}
use Rattle.mk_nodes.specs.declared.graph.Graph.{Graph}
use Rattle.mk_graph.proofs.CountedLemmas.{length-counting, closed_counting}
use Rattle.mk_plan.specs.Passage.{Passage, is_listed}
use Rattle.mk_plan.specs.Passing.{Passes}
use Rattle.dmk_reading.specs.Lost.{IsLost}
use Rattle.dmk_reading.specs.Passing.{Lists, at_end, behind, IsListing, lists_any, PassesEach}
use Rattle.dmk_reading.specs.Planned.{judged_graph}

-- what was listed so far: with what is listed of the nodes that are left it is what all list
abbrev pub ListedSoFar : (keeping : Bool) (graph : Graph) (marks : List Bool) (i : ℕ) (listed : List Passage) → Type 0
ListedSoFar keeping graph marks i listed =
    (rest : List Passage) → Lists keeping graph marks (drop i graph.order.items) rest → IsListing keeping graph (listed ++ rest)

pub listed_more : (keeping : Bool) (graph : Graph) (marks : List Bool) (i n : ℕ) (remade : Bool) (front listed : List Passage) →
    drop i graph.order.items ≡ n ∷ drop (i + 1) graph.order.items → (IsLost graph n → ⊥) → Passes keeping graph marks n remade front →
    ListedSoFar keeping graph marks i listed → ListedSoFar keeping graph (set marks n remade) (i + 1) (listed ++ front)
listed_more keeping graph marks i n remade front listed next stands passes before = λ rest after.
    subst (IsListing keeping graph) (sym (append_assoc listed front rest))
    (before (front ++ rest)
    (subst (λ left. Lists keeping graph marks left (front ++ rest)) (sym next) (behind stands passes after)))

-- all nodes are passed
pub listed_all : (keeping : Bool) (graph : Graph) (marks : List Bool) (i : ℕ) (listed : List Passage) →
    drop i graph.order.items ≡ [] → listed ++ [] ≡ listed → ListedSoFar keeping graph marks i listed → IsListing keeping graph listed
listed_all keeping graph marks i listed none same before =
    subst (IsListing keeping graph) same (before [] (subst (λ left. Lists keeping graph marks left []) (sym none) at_end))

or_assoc : (a b c : Bool) → (a || (b || c)) ≡ ((a || b) || c)
or_assoc true b c = refl
or_assoc false b c = refl

-- a recipe is among two lists together where it is in one
pub any_more : (listed front : List Passage) → lists_any (listed ++ front) ≡ (lists_any listed || lists_any front)
any_more [] front = refl
any_more (p ∷ listed) front =
    ap (λ b. is_listed p || b) (any_more listed front) ∙ or_assoc (is_listed p) (lists_any listed) (lists_any front)

-- where none is in either, none is in both
pub none_more : (listed front : List Passage) → lists_any listed ≡ false → lists_any front ≡ false → lists_any (listed ++ front) ≡ false
none_more listed front before none = any_more listed front ∙ ap (λ b. b || lists_any front) before ∙ none

-- each node of a plan is one of the graph
pub plan_below : (g : List (List ℕ)) (passed order : List ℕ) → IsPlanAfter g passed order → list_all (λ n. nat_lt n (length g)) order ≡ true
plan_below g passed [] plan = refl
plan_below g passed (n ∷ order) (next, more) =
    let ready = and_parts (nat_lt n (length g)) (not (has passed n) && list_all (has passed) (row g n)) next.ready in
    and_from (nat_lt n (length g)) (list_all (λ m. nat_lt m (length g)) order) ready.0 (plan_below g (passed ++ n ∷ []) order more)

counting_rows : (graph : Graph) → length (counting_in graph) ≡ length graph.nodes.items
counting_rows graph = length-counting (required_in graph) graph.soft graph.soft_dropped ∙ graph.required_rows

pub order_below : (inputs : Inputs) (named : List (List ℕ)) (graph : Graph) → IsGraph inputs named graph →
    list_all (λ n. nat_lt n (length graph.nodes.items)) graph.order.items ≡ true
order_below inputs named graph is =
    subst (λ count. list_all (λ n. nat_lt n count) graph.order.items ≡ true) (counting_rows graph) (plan_below (counting_in graph) [] graph.order.items is.order)

-- no edges that count make a cycle where the hard ones don't
uncycled : (hard soft : List (List ℕ)) (dropped : Bool) → IsDropped hard soft dropped → (HasCycle hard → ⊥) → HasCycle (counting hard soft dropped) → ⊥
uncycled hard soft true is acyclic cycle = acyclic cycle
uncycled hard soft false (inl none) acyclic cycle = none cycle
uncycled hard soft false (inr in_hard) acyclic cycle = acyclic in_hard

pub passes_each : (inputs : Inputs) (named : List (List ℕ)) (graph : Graph) → IsGraph inputs named graph → PassesEach graph
passes_each inputs named graph is = record {
  order = is.order;
  once = λ n. subst (λ count. times n graph.order.items ≡ (if nat_lt n count then 1 else 0)) (counting_rows graph)
      (whole_plan (counting_in graph) graph.order.items
      (closed_counting (required_in graph) graph.soft graph.soft_dropped (graph.soft_rows ∙ sym graph.required_rows) graph.required_closed graph.soft_closed)
      (uncycled (required_in graph) graph.soft graph.soft_dropped is.dropped is.acyclic) is.order n);
}

-- the graph by which targets are judged is passed as the one that it is made of
pub passes_judged : (all : Bool) (graph judged : Graph) → judged ≡ judged_graph all graph → PassesEach graph → PassesEach judged
passes_judged true graph judged is passes = subst PassesEach (sym is) (record { order = passes.order; once = passes.once })
passes_judged false graph judged is passes = subst PassesEach (sym is) passes
