-- What a power cut of a disk in memory leaves, among all that it may leave.
use Rattle.std.specs.Prelude.{◌≡◌, ℕ, zero, suc, ◌+◌, ◌%◌, ◌<◌, ◌≤◌, Bool, false, ◌&&◌, ◌||◌, nat_le, nat_lt, ◌==◌, if◌then◌else◌, List, [], ◌∷◌, ◌++◌, length, take, slice_index}
use Rattle.st_disk.specs.declared.which.Which.{Which}
use Rattle.st_disk.specs.declared.which.Which.TheVariants.{A, B}
use Rattle.st_disk.specs.Crash.{UnsyncedWrites, IsCrashImage, overwritten}
use Rattle.st_memory.specs.Memory.{MadeCall, write, cut, sync, MemorySide}

-- one of the ranges holds the place
abbrev pub is_written : List (ℕ × ℕ) → ℕ → Bool
is_written [] place = false
is_written (range ∷ ranges) place = (nat_le range.0 place && nat_lt place (range.0 + range.1)) || is_written ranges place

-- a crash may leave any byte here: the place was written since the last sync, or lies past what is left of its bytes
abbrev pub is_open : List ℕ → List (ℕ × ℕ) → ℕ → Bool
is_open synced ranges place = is_written ranges place || nat_le (length synced) place

-- how many such places lie below this one
abbrev pub open_below : List ℕ → List (ℕ × ℕ) → ℕ → ℕ
open_below synced ranges zero = 0
open_below synced ranges (suc place) = open_below synced ranges place + (if is_open synced ranges place then 1 else 0)

-- the bytes to fill with, again and again from their start; zeros where there are none
abbrev pub fill_byte : List ℕ → ℕ → ℕ
fill_byte fill k = if length fill == 0 then 0 else slice_index fill (k % length fill)

-- the byte that the cut leaves: the synced one, or the next one of the filling
abbrev pub cut_byte : List ℕ → List (ℕ × ℕ) → List ℕ → ℕ → ℕ
cut_byte synced ranges fill place =
    if is_open synced ranges place then fill_byte fill (open_below synced ranges place) else slice_index synced place

-- the bytes that the cut leaves of one side
pub record IsCut (synced : List ℕ) (ranges : List (ℕ × ℕ)) (fill : List ℕ) (len : ℕ) (bytes : List ℕ) : Type 0 where
  pub long : length bytes ≡ len
  pub each : (place : ℕ) → place < len → slice_index bytes place ≡ cut_byte synced ranges fill place

-- the same of a side, which is one of its crash images: of the bytes of the last sync those that were cut off are open
pub record IsPowerCut (writes : UnsyncedWrites) (fill : List ℕ) (len : ℕ) (bytes : List ℕ) : Type 0 where
  pub cut : IsCut (take writes.least writes.synced) writes.ranges fill len bytes
  pub image : IsCrashImage writes bytes

-- a crash may leave the side with this length
pub record MayHaveLength (writes : UnsyncedWrites) (len : ℕ) : Type 0 where
  pub no_shorter : writes.least ≤ len
  pub no_longer : len ≤ writes.greatest

-- of a side what such a cut is made from
pub record Contents : Type 0 where
  pub bytes : List ℕ
  pub synced : List ℕ
  pub ranges : List (ℕ × ℕ)

abbrev pub contents_of : MemorySide → Contents
contents_of side = record { bytes = side.bytes; synced = side.writes.synced; ranges = side.writes.ranges }

abbrev pub if_same : {X : Type 0} → Which → Which → X → X → X
if_same A A same different = same
if_same A B same different = different
if_same B A same different = different
if_same B B same different = same

-- the contents of a side after a call of either side
abbrev pub contents_after : Which → MadeCall → Contents → Contents
contents_after side (write w at bytes) c = if_same side w (record { bytes = overwritten c.bytes at bytes; synced = c.synced; ranges = c.ranges ++ (at, length bytes) ∷ [] }) c
contents_after side (cut w len) c = if_same side w (record { bytes = take len c.bytes; synced = c.synced; ranges = c.ranges }) c
contents_after side (sync w) c = if_same side w (record { bytes = c.bytes; synced = c.bytes; ranges = [] }) c

abbrev pub replay_contents : Which → Contents → List MadeCall → Contents
replay_contents side contents [] = contents
replay_contents side contents (call ∷ calls) = replay_contents side (contents_after side call contents) calls
