-- Nodes that wait for prerequisites, while a plan is made. Own.
use Rattle.std.specs.Prelude.{◌≡◌, ℕ, ◌<◌, ◌≤◌, Bool, true, false, not, ◌&&◌, nat_lt, List, [], length, slice_index, slice_index_or}
use Rattle.std.specs.List.{list_all}
use Rattle.mk_graph.specs.Edges.{row, has}

-- whether a node was passed, by the marks
abbrev pub is_passed : (marks : List Bool) (n : ℕ) → Bool
is_passed marks n = slice_index_or marks n false

-- whether a node can be passed next, by the marks
abbrev pub can_pass : (g : List (List ℕ)) (marks : List Bool) (n : ℕ) → Bool
can_pass g marks n = nat_lt n (length g) && (not (is_passed marks n) && list_all (is_passed marks) (row g n))

-- at a place of a row stands p, and all behind it were passed
pub record IsSeen (marks : List Bool) (ns : List ℕ) (place p : ℕ) : Type 0 where
  pub within : place < length ns
  pub number : slice_index ns place ≡ p
  pub behind : (k : ℕ) → place < k → k < length ns → is_passed marks (slice_index ns k) ≡ true

-- a node with this row waits: it stands in the list of the number at its place, if that is a node
pub record Waits (marks : List Bool) (ns places : List ℕ) (lists : List (List ℕ)) (n : ℕ) : Type 0 where
  pub p : ℕ
  pub seen : IsSeen marks ns (slice_index places n) p
  pub listed : p < length lists → has (row lists p) n ≡ true

-- a node that stands in the list of p was looked at and not passed, and in its row p stands at its place
pub record IsListed (g : List (List ℕ)) (marks : List Bool) (from : ℕ) (places : List ℕ) (p n : ℕ) : Type 0 where
  pub looked_at : n < from
  pub fresh : is_passed marks n ≡ false
  pub seen : IsSeen marks (row g n) (slice_index places n) p

-- of the nodes below a number each was passed, is ready, or waits; the others weren't looked at
pub record AreWatched (g : List (List ℕ)) (marks : List Bool) (ready : ℕ → Bool) (from : ℕ) (places : List ℕ) (lists : List (List ℕ)) : Type 0 where
  pub marked : length marks ≡ length g
  pub placed : length places ≡ length g
  pub linked : length lists ≡ length g
  pub some : from ≤ length g
  pub passed : (n : ℕ) → is_passed marks n ≡ true → n < from
  pub found : (n : ℕ) → ready n ≡ true → n < from
  pub can : (n : ℕ) → ready n ≡ true → can_pass g marks n ≡ true
  pub wait : (n : ℕ) → n < from → is_passed marks n ≡ false → ready n ≡ false → Waits marks (row g n) places lists n
  pub are_listed : (p n : ℕ) → has (row lists p) n ≡ true → IsListed g marks from places p n

-- no node waits for one that was passed
abbrev pub AreReleased : (marks : List Bool) (lists : List (List ℕ)) → Type 0
AreReleased marks lists = (p : ℕ) → is_passed marks p ≡ true → row lists p ≡ []
