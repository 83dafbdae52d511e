-- What a power cut may leave on the two sides of a disk.
use Rattle.std.specs.Prelude.{◌≡◌, ◌⊎◌, ℕ, ◌+◌, ◌<◌, ◌≤◌, min, max, List, [], ◌∷◌, ◌++◌, length, take, drop, slice_index}
use Rattle.st_disk.specs.declared.which.Which.{Which}
use Rattle.st_disk.specs.declared.which.Which.TheVariants.{A, B}

-- one side since its last successful sync: the bytes that it held then, the ranges written since (where from, how
-- many bytes; a write that failed counts), and the least and the greatest length since (a cut that failed counts)
pub record UnsyncedWrites : Type 0 where
  pub synced : List ℕ
  pub ranges : List (ℕ × ℕ)
  pub least : ℕ
  pub greatest : ℕ

-- one of the ranges holds the place
abbrev pub IsWritten : List (ℕ × ℕ) → ℕ → Type 0
IsWritten [] place = ⊥
IsWritten (range ∷ ranges) place = ((range.0 ≤ place) × (place < range.0 + range.1)) ⊎ IsWritten ranges place

-- a crash may leave these bytes on the side: a length between the two, and at each place of the last sync's bytes that
-- was neither written nor cut off since that sync's byte; elsewhere any bytes
pub record IsCrashImage (writes : UnsyncedWrites) (bytes : List ℕ) : Type 0 where
  pub no_shorter : writes.least ≤ length bytes
  pub no_longer : length bytes ≤ writes.greatest
  pub kept : (place : ℕ) → place < length writes.synced → place < writes.least → (IsWritten writes.ranges place → ⊥)
      → slice_index bytes place ≡ slice_index writes.synced place

-- after a successful sync of these bytes
abbrev pub settled : List ℕ → UnsyncedWrites
settled bytes = record { synced = bytes; ranges = []; least = length bytes; greatest = length bytes }

-- after a write of n bytes from an offset on, whole, cut short or failed
abbrev pub written_at : ℕ → ℕ → UnsyncedWrites → UnsyncedWrites
written_at at n writes = record writes { ranges = writes.ranges ++ (at, n) ∷ []; greatest = max writes.greatest (at + n) }

-- after a cut to a length, done or failed: what stood from there on is open
abbrev pub cut_to : ℕ → UnsyncedWrites → UnsyncedWrites
cut_to len writes = record writes { least = min writes.least len }

-- the unsynced writes of both sides
pub record Sides : Type 0 where
  pub a : UnsyncedWrites
  pub b : UnsyncedWrites

abbrev pub writes_of : Which → Sides → UnsyncedWrites
writes_of A sides = sides.a
writes_of B sides = sides.b

-- the same but for one side
abbrev pub with_writes : Which → UnsyncedWrites → Sides → Sides
with_writes A writes sides = record sides { a = writes }
with_writes B writes sides = record sides { b = writes }

abbrev pub other : Which → Which
other A = B
other B = A

-- each pair of crash images, one of each side, is so related
abbrev pub EachPair : (List ℕ → List ℕ → Type 0) → Sides → Type 0
EachPair R sides = (a b : List ℕ) → IsCrashImage sides.a a → IsCrashImage sides.b b → R a b

-- the other side's unsynced writes are these, and each crash image of the side has P
pub record SideHas (side : Which) (away : UnsyncedWrites) (P : List ℕ → Type 0) (sides : Sides) : Type 0 where
  pub away_same : writes_of (other side) sides ≡ away
  pub each : (bytes : List ℕ) → IsCrashImage (writes_of side sides) bytes → P bytes

-- the bytes with these from an offset on, over what stood there and past the end
abbrev pub overwritten : List ℕ → ℕ → List ℕ → List ℕ
overwritten old at bytes = take at old ++ bytes ++ drop (at + length bytes) old
