-- The nodes of a graph passed in its order, and what is listed of them.
use Rattle.std.specs.Prelude.{◌≡◌, ℕ, Bool, false, nat_lt, List, [], ◌∷◌, ◌++◌, length, replicate, slice_set, if◌then◌else◌}
use Rattle.std.specs.List.{list_any}
use Rattle.mk_graph.specs.Edges.{times}
use Rattle.mk_graph.specs.Plan.{IsPlan}
use Rattle.mk_nodes.specs.Graph.{counting_in}
use Rattle.mk_plan.specs.Passage.{Passage, is_listed}
use Rattle.mk_plan.specs.Passing.{Passes}
use Rattle.mk_nodes.specs.declared.graph.Graph.{Graph}
use Rattle.dmk_reading.specs.Lost.{IsLost}

-- the nodes are passed in this order, behind others whose marks these are, and this is what there is to tell of them: for each
-- listed target the reason and its recipe, and the targets with a recipe that are up to date. Of a lost node nothing is told
pub data Lists (keeping : Bool) (graph : Graph) : (marks : List Bool) → (order : List ℕ) → (listed : List Passage) → Type 0 where
  at_end : {marks : List Bool} → Lists keeping graph marks [] []
  behind : {marks : List Bool} {n : ℕ} {order : List ℕ} {remade : Bool} {front listed : List Passage} → (IsLost graph n → ⊥) →
      Passes keeping graph marks n remade front → Lists keeping graph (slice_set marks n remade) order listed →
      Lists keeping graph marks (n ∷ order) (front ++ listed)
  without : {marks : List Bool} {n : ℕ} {order : List ℕ} {listed : List Passage} → IsLost graph n →
      Lists keeping graph marks order listed → Lists keeping graph marks (n ∷ order) listed

-- nothing was remade yet
abbrev pub no_marks : Graph → List Bool
no_marks graph = replicate (length graph.nodes.items) false

-- what a dry run has to tell: the nodes in the graph's own order, in which again and again the least one is passed whose
-- counted prerequisites were passed, without those that are lost
abbrev pub IsListing : (keeping : Bool) (graph : Graph) (listed : List Passage) → Type 0
IsListing keeping graph listed = Lists keeping graph (no_marks graph) graph.order.items listed

-- some recipe is listed
abbrev pub lists_any : List Passage → Bool
lists_any listed = list_any is_listed listed

-- a dry run lists no recipe
abbrev pub ListsNone : (keeping : Bool) (graph : Graph) → Type 0
ListsNone keeping graph = (listed : List Passage) × IsListing keeping graph listed × (lists_any listed ≡ false)

-- the graph's order has each node once and no other number, and behind all nodes that the edges that count lead it to
pub record PassesEach (graph : Graph) : Type 0 where
  pub order : IsPlan (counting_in graph) graph.order.items
  pub once : (n : ℕ) → times n graph.order.items ≡ (if nat_lt n (length graph.nodes.items) then 1 else 0)
