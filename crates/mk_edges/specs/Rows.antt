-- The rows of numbered names: their first numbers are those of hard prerequisites, the others those of hidden and order-only ones.
use Rattle.std.specs.Prelude.{◌≡◌, ℕ, ◌<◌, List, ◌++◌, length, take, drop, Some, slice_get}
use Rattle.mk_graph.specs.Edges.{row}
use Rattle.mk_nodes.specs.declared.graph.Node.{Node}

-- each row has a property that speaks of its number too
abbrev pub EachRow : (is : (n : ℕ) → List ℕ → Type 0) → (rows : List (List ℕ)) → Type 0
EachRow is rows = (n : ℕ) → n < length rows → is n (row rows n)

-- the row holds the hard prerequisites of node n
abbrev pub IsHardRow : (g : List (List ℕ)) (known : List Node) (n : ℕ) (r : List ℕ) → Type 0
IsHardRow g known n r = (k : Node) → slice_get known n ≡ Some k → r ≡ take k.hard (row g n)

-- the row holds what node n waits for besides: hidden prerequisites that are nodes, and order-only ones
abbrev pub IsWaitedRow : (g : List (List ℕ)) (known : List Node) (n : ℕ) (r : List ℕ) → Type 0
IsWaitedRow g known n r = (k : Node) → slice_get known n ≡ Some k → r ≡ drop k.hard (row g n)

-- the row begins with these numbers
abbrev pub IsSoftRow : (g : List (List ℕ)) (known : List Node) (n : ℕ) (r : List ℕ) → Type 0
IsSoftRow g known n r = (k : Node) → slice_get known n ≡ Some k → (behind : List ℕ) × (r ≡ drop k.hard (row g n) ++ behind)
