-- Words in order (GNU make manual, "Functions for String Substitution and Analysis").
use Rattle.std.specs.Prelude.{◌≡◌, ℕ, Bool, List, bytes_eq}
use Rattle.std.specs.List.{list_any}
use Rattle.std.specs.List.Sorted.{IsStrictlySortedBy}
use Rattle.std.specs.Ordering.{nat_cmp}
use Rattle.std.specs.Cmp.Lexicographic.{slice_cmp}

abbrev pub is_among : (ws : List (List ℕ)) (word : List ℕ) → Bool
is_among ws word = list_any (bytes_eq word) ws

-- the same words in the order of their bytes, each once
pub record IsSortOf (ws sorted : List (List ℕ)) : Type 0 where
  pub in_order : IsStrictlySortedBy (slice_cmp nat_cmp) sorted
  pub same_words : (word : List ℕ) → is_among sorted word ≡ is_among ws word
