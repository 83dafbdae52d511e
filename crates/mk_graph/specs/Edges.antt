-- Graphs as lists of rows: the row of a node holds the numbers of its prerequisites. Own.
use Rattle.std.specs.Prelude.{◌≡◌, ℕ, ◌<◌, Bool, nat_eq, nat_lt, List, [], length, slice_index_or, count_by}
use Rattle.std.specs.List.{list_any, list_all}
use Rattle.std.specs.List.Sorted.{IsNonDecreasing}

-- the prerequisites of a node; a number past the end has none
abbrev pub row : (g : List (List ℕ)) (n : ℕ) → List ℕ
row g n = slice_index_or g n []

-- whether a number is in a list
abbrev pub has : List ℕ → ℕ → Bool
has xs n = list_any (nat_eq n) xs

-- how often a number is in a list
abbrev pub times : ℕ → List ℕ → ℕ
times n xs = count_by (nat_eq n) xs

-- each number in a row is that of a node
abbrev pub is_closed : (g : List (List ℕ)) → Bool
is_closed g = list_all (λ ns. list_all (λ n. nat_lt n (length g)) ns) g

-- the rows of the second graph hold the users of the nodes of the first, as often as these name them and in their order
pub record AreUsers (g users : List (List ℕ)) : Type 0 where
  pub nodes : length users ≡ length g
  pub counts : (n m : ℕ) → m < length g → times n (row users m) ≡ times m (row g n)
  pub ascending : (m : ℕ) → IsNonDecreasing (row users m)
