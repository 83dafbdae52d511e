-- Rows of known lengths that are filled from their starts on. Own.
use Rattle.std.specs.Prelude.{◌≡◌, ℕ, ◌+◌, ◌<◌, ◌≤◌, List, [], ◌∷◌, length, slice_index, slice_range, sum_by}
use Rattle.byte_strings.specs.Pieces.{AreEnds}
use Rattle.mk_graph.specs.Edges.{row, times}

-- where rows of these lengths end, the first of which begins at the start
abbrev pub ends_from : (start : ℕ) (lengths : List ℕ) → List ℕ
ends_from start [] = []
ends_from start (n ∷ lengths) = (start + n) ∷ ends_from (start + n) lengths

-- rows that end there start at these places, each at the end of the row before it
pub record AreStarts (ends starts : List ℕ) : Type 0 where
  pub nodes : length starts ≡ length ends
  pub places : (n : ℕ) → n < length ends → slice_index starts n ≡ slice_index (0 ∷ ends) n

-- what a row has so far, from its start, which is the end of the row before it, to where its next number goes
abbrev pub filled : (numbers ends next : List ℕ) (n : ℕ) → List ℕ
filled numbers ends next n = slice_range numbers (slice_index (0 ∷ ends) n) (slice_index next n)

-- rows that end there can each take a user for each time that these prerequisites name its node
pub record CanTake (size : ℕ) (ends next prerequisites : List ℕ) : Type 0 where
  pub are_ends : AreEnds size 0 ends
  pub nodes : length next ≡ length ends
  pub begun : (n : ℕ) → n < length ends → slice_index (0 ∷ ends) n ≤ slice_index next n
  pub room : (n : ℕ) → n < length ends → slice_index next n + times n prerequisites ≤ slice_index ends n

-- rows that start there have room for just the users of each node
pub record HasRoom (g : List (List ℕ)) (size : ℕ) (starts : List ℕ) : Type 0 where
  pub ends : List ℕ
  pub are_ends : AreEnds size 0 ends
  pub nodes : length ends ≡ length g
  pub rooms : (n : ℕ) → n < length g → slice_index ends n ≡ slice_index (0 ∷ ends) n + sum_by (times n) g
  pub are_starts : AreStarts ends starts

-- the rows of the second graph hold the users of the nodes of the first, as often as these name them
pub record HasUsers (g users : List (List ℕ)) : Type 0 where
  pub nodes : length users ≡ length g
  pub counts : (n m : ℕ) → m < length g → times n (row users m) ≡ times m (row g n)
