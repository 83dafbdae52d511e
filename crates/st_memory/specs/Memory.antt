-- A disk in memory, which keeps every call that it made.
use Rattle.std.specs.Prelude.{◌≡◌, ℕ, ◌+◌, List, [], ◌∷◌, length, take, drop}
use Rattle.st_disk.specs.declared.which.Which.{Which}
use Rattle.st_disk.specs.declared.which.Which.TheVariants.{A, B}
use Rattle.st_memory.specs.declared.call.Call.{Call}
use Rattle.st_memory.specs.declared.call.Call.TheVariants.{Write, Cut, Sync}
use Rattle.st_memory.specs.declared.mem_side.MemSide.{MemSide}
use Rattle.st_disk.specs.Crash.{UnsyncedWrites, IsCrashImage, settled, written_at, cut_to, Sides, overwritten}
use Rattle.st_disk.specs.Moments.{Moments}

-- a call that was made, with its bytes
pub data MadeCall : Type 0 where
  write : Which → ℕ → List ℕ → MadeCall
  cut : Which → ℕ → MadeCall
  sync : Which → MadeCall

-- one side: what reads give, and its unsynced writes
pub record MemorySide : Type 0 where
  pub bytes : List ℕ
  pub writes : UnsyncedWrites

pub record MemorySides : Type 0 where
  pub a : MemorySide
  pub b : MemorySide

abbrev pub side_of : Which → MemorySides → MemorySide
side_of A both = both.a
side_of B both = both.b

abbrev pub with_side : Which → MemorySide → MemorySides → MemorySides
with_side A side both = record both { a = side }
with_side B side both = record both { b = side }

-- two empty sides, on the disk
abbrev pub blank : MemorySides
blank = record { a = record { bytes = []; writes = settled [] }; b = record { bytes = []; writes = settled [] } }

-- a side after a call
abbrev pub side_written : ℕ → List ℕ → MemorySide → MemorySide
side_written at bytes side = record { bytes = overwritten side.bytes at bytes; writes = written_at at (length bytes) side.writes }

abbrev pub side_cut : ℕ → MemorySide → MemorySide
side_cut len side = record { bytes = take len side.bytes; writes = cut_to len side.writes }

abbrev pub side_synced : MemorySide → MemorySide
side_synced side = record side { writes = settled side.bytes }

-- both sides after a call
abbrev pub after_call : MadeCall → MemorySides → MemorySides
after_call (write side at bytes) both = with_side side (side_written at bytes (side_of side both)) both
after_call (cut side len) both = with_side side (side_cut len (side_of side both)) both
after_call (sync side) both = with_side side (side_synced (side_of side both)) both

-- both sides after these calls, the first of them first
abbrev pub replay : MemorySides → List MadeCall → MemorySides
replay both [] = both
replay both (call ∷ calls) = replay (after_call call both) calls

-- how many bytes a call wrote
abbrev pub size_of : Call → ℕ
size_of (Write side at len) = len
size_of (Cut side len) = 0
size_of (Sync side) = 0

-- a call with its bytes
abbrev pub made_call : Call → List ℕ → MadeCall
made_call (Write side at len) bytes = write side at bytes
made_call (Cut side len) bytes = cut side len
made_call (Sync side) bytes = sync side

-- the calls with their bytes, which stand one after the other
abbrev pub made : List Call → List ℕ → List MadeCall
made [] written = []
made (call ∷ calls) written = made_call call (take (size_of call) written) ∷ made calls (drop (size_of call) written)

-- how many bytes the calls wrote
abbrev pub bytes_written : List Call → ℕ
bytes_written [] = 0
bytes_written (call ∷ calls) = size_of call + bytes_written calls

-- the unsynced writes of both sides
abbrev pub sides_of : MemorySides → Sides
sides_of both = record { a = both.a.writes; b = both.b.writes }

-- a moment after each call
abbrev pub moments_of : List MadeCall → Moments
moments_of calls = record { newest = length calls; at = λ k. sides_of (replay blank (take k calls)) }

-- what the side in memory holds: these bytes, which are a crash image, and these extreme lengths
pub record HoldsImage (side : MemorySide) (held : MemSide) : Type 0 where
  pub same : side.bytes ≡ held.bytes.items
  pub least : side.writes.least ≡ held.least
  pub greatest : side.writes.greatest ≡ held.greatest
  pub image : IsCrashImage side.writes side.bytes

-- the kept calls have their bytes, and lead to what the two sides hold
pub record IsReplayed (calls : List Call) (written : List ℕ) (held : Which → MemSide) : Type 0 where
  pub complete : bytes_written calls ≡ length written
  pub holds : (side : Which) → HoldsImage (side_of side (replay blank (made calls written))) (held side)
