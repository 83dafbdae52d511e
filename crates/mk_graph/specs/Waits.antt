-- Groups of nodes that wait for one another (dmake's `.WAIT`: what stands behind it waits for what stands before it).
use Rattle.std.specs.Prelude.{◌≡◌, ℕ, Bool, false, ◌&&◌, ◌||◌, List, [], ◌∷◌, ◌++◌}
use Rattle.std.specs.List.{flat_map}
use Rattle.mk_graph.specs.Edges.{row, has}

-- the nodes of all groups
abbrev pub all_of : (groups : List (List ℕ)) → List ℕ
all_of groups = flat_map (λ group. group) groups

-- whether a node waits for another: it stands in a group behind one with the other
abbrev pub waits : (groups : List (List ℕ)) (node other : ℕ) → Bool
waits [] node other = false
waits (group ∷ behind) node other = (has group other && has (all_of behind) node) || waits behind node other

-- each row of the second graph begins with that of the first
abbrev pub BeginWith : (g more : List (List ℕ)) → Type 0
BeginWith g more = (n : ℕ) → (behind : List ℕ) × (row more n ≡ row g n ++ behind)
