-- A text put behind a closed gate, and the gate then opened: what the side holds before it, in it and after it. What the
-- text says does not matter. The order of writes is this project's own.
use Rattle.std.specs.Prelude.{◌≡◌, ◌⊎◌, ℕ, ◌<◌, List, [], ◌∷◌, ◌++◌, length, slice_index}
use Rattle.st_disk.specs.Crash.{UnsyncedWrites, settled}

-- the side is on the disk just as reads give it, and at this place it has a closed gate
pub record IsReady (seen : List ℕ) (writes : UnsyncedWrites) (gate : ℕ) : Type 0 where
  pub on_disk : writes ≡ settled seen
  pub within : gate < length seen
  pub closed : slice_index seen gate ≡ 0

-- behind this front a closed gate stands, and after it any bytes
pub record IsClosedBehind (front x : List ℕ) : Type 0 where
  pub rest : List ℕ
  pub bytes : x ≡ front ++ 0 ∷ rest

-- behind this front an open gate stands, then this text, and after it any bytes
pub record IsOpenBehind (front text x : List ℕ) : Type 0 where
  pub gate : ℕ
  pub is_open : 0 < gate
  pub rest : List ℕ
  pub bytes : x ≡ front ++ gate ∷ (text ++ rest)

-- the gate behind this front is still closed, or it is open and the text stands behind it
abbrev pub IsClosedOrOpen : (front text x : List ℕ) → Type 0
IsClosedOrOpen front text x = IsClosedBehind front x ⊎ IsOpenBehind front text x

-- the gate behind this front is open, the text stands behind it, and all of the side is on the disk
pub record IsOpened (front text seen : List ℕ) (writes : UnsyncedWrites) : Type 0 where
  pub on_disk : writes ≡ settled seen
  pub opened : IsOpenBehind front text seen

-- the text ends in a closed gate
pub record EndsClosed (text : List ℕ) : Type 0 where
  pub front : List ℕ
  pub ends : text ≡ front ++ 0 ∷ []
