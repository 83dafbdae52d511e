-- The numbering of names by first mention. Own.
use Rattle.std.specs.Prelude.{◌≡◌, ℕ, Bool, true, List, [], ◌++◌, Some, slice_get}
use Rattle.std.specs.List.{list_all, flat_map, IsDistinct}
use Rattle.std.specs.Str.{bytes_eq}
use Rattle.mk_names.specs.Names.{name_at, all_added}

-- the names in the order of their numbers, where `of` gives the prerequisites of a name: the goals by first mention, then,
-- name by name in this very order, the prerequisites that are new; and no others than the goals lead to
pub record IsNumbering (of : List ℕ → List (List ℕ)) (goals names : List (List ℕ)) : Type 0 where
  pub order : names ≡ all_added [] (goals ++ flat_map of names)
  pub least : (inside : List ℕ → Bool) → list_all inside goals ≡ true → ((n : List ℕ) → inside n ≡ true → list_all inside (of n) ≡ true)
      → list_all inside names ≡ true

-- each node is that of the name with its number
abbrev pub AreDescribed : {N : Type 0} (describes : (name : List ℕ) → N → Type 0) (names : List (List ℕ)) (nodes : List N) → Type 0
AreDescribed {N} describes names nodes = (n : ℕ) (node : N) → slice_get nodes n ≡ Some node → describes (name_at names n) node

-- no name has two numbers
abbrev pub DistinctNames : Type 0
DistinctNames = (of : List ℕ → List (List ℕ)) (goals names : List (List ℕ)) → IsNumbering of goals names → IsDistinct bytes_eq names
