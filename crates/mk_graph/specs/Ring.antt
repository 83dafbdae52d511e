-- What the search for a cycle finds before it is turned to its least node.
use Rattle.std.specs.Prelude.{ℕ, List, [], ◌∷◌, ◌++◌}
use Rattle.mk_graph.specs.Cycle.{IsChain}

-- each node is a prerequisite of the one before, and the first is one of the last
abbrev pub IsRing : (g : List (List ℕ)) → List ℕ → Type 0
IsRing g [] = ⊥
IsRing g (n ∷ more) = IsChain g n (more ++ n ∷ [])
