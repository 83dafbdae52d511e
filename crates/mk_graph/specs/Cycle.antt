-- Cycles of a graph. Own.
use Rattle.std.specs.Prelude.{◌≡◌, ℕ, true, nat_eq, nat_le, List, [], ◌∷◌, ◌++◌}
use Rattle.std.specs.List.{IsDistinct, list_all}
use Rattle.mk_graph.specs.Edges.{row, has}

-- each node of the list is a prerequisite of the one before, and the first is one of n
abbrev pub IsChain : (g : List (List ℕ)) (n : ℕ) → List ℕ → Type 0
IsChain g n [] = Unit {0}
IsChain g n (m ∷ more) = (has (row g n) m ≡ true) × IsChain g m more

-- a simple cycle: it goes from a node to its prerequisite, from its least node on and back to it, and meets each other node once
pub record IsCycle (g : List (List ℕ)) (cycle : List ℕ) : Type 0 where
  pub first : ℕ
  pub between : List ℕ
  pub whole : cycle ≡ first ∷ (between ++ first ∷ [])
  pub chain : IsChain g first (between ++ first ∷ [])
  pub once : IsDistinct nat_eq (first ∷ between)
  pub least : list_all (nat_le first) between ≡ true

-- the graph has a cycle
abbrev pub HasCycle : List (List ℕ) → Type 0
HasCycle g = (cycle : List ℕ) × IsCycle g cycle
