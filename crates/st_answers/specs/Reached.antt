-- Names that are reached from others, edge by edge, each of which leads to a prerequisite (ninja's manual, "-t graph"; depth and order: own).
use Rattle.std.specs.Prelude.{◌≡◌, ◌≤◌, ℕ, zero, suc, true, List, [], ◌++◌, Option, None, Some, length, take}
use Rattle.std.specs.List.{flat_map, IsDistinct}
use Rattle.std.specs.Str.{bytes_eq}
use Rattle.mk_names.specs.Names.{has_name, all_added}

-- from these starts a name is reached along just so many edges, where `of` gives the prerequisites of a name
abbrev pub ReachesAlong : (of : List ℕ → List (List ℕ)) (starts : List (List ℕ)) (edges : ℕ) (name : List ℕ) → Type 0
ReachesAlong of starts zero name = has_name starts name ≡ true
ReachesAlong of starts (suc edges) name = (user : List ℕ) × (ReachesAlong of starts edges user × (has_name (of user) name ≡ true))

-- there are no more edges than the depth, if there is one
abbrev pub IsWithin : (depth : Option ℕ) (edges : ℕ) → Type 0
IsWithin None edges = Unit {0}
IsWithin (Some depth) edges = edges ≤ depth

-- a name is reached along so many edges as the depth allows
pub record Reaches (of : List ℕ → List (List ℕ)) (starts : List (List ℕ)) (depth : Option ℕ) (name : List ℕ) : Type 0 where
  pub edges : ℕ
  pub within : IsWithin depth edges
  pub along : ReachesAlong of starts edges name

-- the names that are drawn: just those that are reached, each once; the starts by first mention, and then, name by name in this very
-- order, the prerequisites that are new
pub record AreDrawn (of : List ℕ → List (List ℕ)) (starts : List (List ℕ)) (depth : Option ℕ) (names : List (List ℕ)) : Type 0 where
  pub reached : (name : List ℕ) → has_name names name ≡ true → Reaches of starts depth name
  pub all : (name : List ℕ) → Reaches of starts depth name → has_name names name ≡ true
  pub once : IsDistinct bytes_eq names
  pub order : names ≡ take (length names) (all_added [] (starts ++ flat_map of names))
