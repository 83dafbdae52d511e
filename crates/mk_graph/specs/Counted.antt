-- The edges that order nodes, of hard and soft ones. Own.
use Rattle.std.specs.Prelude.{◌≡◌, ◌⊎◌, ℕ, Bool, true, false, List, [], ◌∷◌, ◌++◌, length, if◌then◌else◌}
use Rattle.std.specs.List.Sorted.{IsStrictlyIncreasing}
use Rattle.mk_graph.specs.Edges.{row, has}
use Rattle.mk_graph.specs.Cycle.{HasCycle}

-- hard and soft edges together
abbrev pub joined : (hard soft : List (List ℕ)) → List (List ℕ)
joined [] soft = []
joined (ns ∷ hard) [] = ns ∷ hard
joined (ns ∷ hard) (ms ∷ soft) = (ns ++ ms) ∷ joined hard soft

-- the rows of the second graph have the numbers of the first one's rows, each once and in their order
pub record AreSets (g sets : List (List ℕ)) : Type 0 where
  pub nodes : length sets ≡ length g
  pub members : (n m : ℕ) → has (row sets n) m ≡ has (row g n) m
  pub ascending : (n : ℕ) → IsStrictlyIncreasing (row sets n)

-- soft edges are dropped just where they and the hard ones make a cycle and the hard ones don't
abbrev pub IsDropped : (hard soft : List (List ℕ)) → Bool → Type 0
IsDropped hard soft true = HasCycle (joined hard soft) × (HasCycle hard → ⊥)
IsDropped hard soft false = (HasCycle (joined hard soft) → ⊥) ⊎ HasCycle hard

-- the edges that count: hard and soft ones, or hard ones alone where soft ones are dropped
abbrev pub counting : (hard soft : List (List ℕ)) (dropped : Bool) → List (List ℕ)
counting hard soft dropped = if dropped then hard else joined hard soft
