-- Recipes that are run one at a time: beside what a node waits for by the graph it may wait for a node that is made before it (POSIX make:
-- the prerequisites of a target are processed in the order in which they are named; own: in which order nodes are gone through).
use Rattle.std.specs.Prelude.{◌≡◌, ℕ, ◌<◌, ◌++◌, List, length}
use Rattle.mk_graph.specs.Edges.{row}

-- each node has these edges, and may have further ones behind them
pub record HasAlso (edges more : List (List ℕ)) : Type 0 where
  pub nodes : length more ≡ length edges
  pub rows : (n : ℕ) → n < length edges → (further : List ℕ) × (row more n ≡ row edges n ++ further)
