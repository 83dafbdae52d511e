-- The row of a name while its prerequisites are given numbers.
use Rattle.std.specs.Prelude.{◌≡◌, ℕ, true, List, length, map, nat_lt}
use Rattle.std.specs.List.{list_all, IsDistinct}
use Rattle.std.specs.Str.{bytes_eq}
use Rattle.mk_names.specs.Names.{name_at, all_added}

-- the names with these numbers
abbrev pub named : (names : List (List ℕ)) (numbers : List ℕ) → List (List ℕ)
named names numbers = map (name_at names) numbers

-- no name has two numbers, each number of the row is that of a name, and the names are those from the start on with those of the row
pub record IsRow (start names : List (List ℕ)) (numbers : List ℕ) : Type 0 where
  pub distinct : IsDistinct bytes_eq names
  pub within : list_all (λ n. nat_lt n (length names)) numbers ≡ true
  pub names_are : names ≡ all_added start (named names numbers)

abbrev pub IsSomeRow : (names : List (List ℕ)) (numbers : List ℕ) → Type 0
IsSomeRow names numbers = (start : List (List ℕ)) × IsRow start names numbers
