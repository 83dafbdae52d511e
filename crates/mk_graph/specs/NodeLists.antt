-- Lists of nodes that are linked through vectors: a link is a node counted from 1, or 0 where there is none. Own.
use Rattle.std.specs.Prelude.{◌≡◌, ℕ, ◌+◌, ◌<◌, ◌^◌, zero, suc, true, false, List, [], ◌∷◌, length, map, slice_index}
use Rattle.mk_graph.specs.Edges.{row, has}

-- the nodes from a link on, so many at most
abbrev pub nodes_from : (next : List ℕ) (most link : ℕ) → List ℕ
nodes_from next zero link = []
nodes_from next (suc most) zero = []
nodes_from next (suc most) (suc n) = n ∷ nodes_from next most (slice_index next n)

-- the lists that begin at these links
abbrev pub lists_of : (heads next : List ℕ) → List (List ℕ)
lists_of heads next = map (nodes_from next (length next)) heads

-- the nodes from a link on are these, none twice
abbrev pub AreLinked : (next : List ℕ) (link : ℕ) (nodes : List ℕ) → Type 0
AreLinked next link [] = link ≡ 0
AreLinked next link (n ∷ nodes) = (link ≡ n + 1) × (n < length next) × (has nodes n ≡ false) × AreLinked next (slice_index next n) nodes

-- each list ends, and no node stands in two of them
pub record AreLists (heads next : List ℕ) : Type 0 where
  pub few : length next < 2 ^ 32
  pub nodes : length heads ≡ length next
  pub linked : (p : ℕ) → p < length heads → AreLinked next (slice_index heads p) (row (lists_of heads next) p)
  pub apart : (p q n : ℕ) → has (row (lists_of heads next) p) n ≡ true → has (row (lists_of heads next) q) n ≡ true → p ≡ q
