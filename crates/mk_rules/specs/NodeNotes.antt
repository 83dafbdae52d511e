-- What is noted of names by their numbers.
use Rattle.std.specs.Prelude.{◌≡◌, ℕ, ◌<◌, Bool, true, false, List, length, slice_index_or}
use Rattle.mk_names.specs.Names.{name_at}

-- the number is marked
abbrev pub is_marked : (marks : List Bool) (number : ℕ) → Bool
is_marked marks number = slice_index_or marks number false

-- each number that is marked is that of a name that is a node
abbrev pub AreKnownNodes : (is_node : List ℕ → Bool) (names : List (List ℕ)) (marks : List Bool) → Type 0
AreKnownNodes is_node names marks = (n : ℕ) → is_marked marks n ≡ true → (n < length names) × (is_node (name_at names n) ≡ true)
