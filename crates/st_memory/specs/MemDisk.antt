-- What clauses see of a `MemDisk`.
use Rattle.std.specs.Prelude.{ℕ, ◌+◌, ◌≤◌, List, Result, IsOk, vec_len, vec_capacity}
use Rattle.st_disk.specs.declared.which.Which.{Which}
use Rattle.st_memory.specs.declared.mem_disk.MemDisk.{MemDisk}
use Rattle.st_disk.specs.Moments.{Moments}
use Rattle.st_memory.specs.Memory.{made, moments_of}
use Rattle.st_disk.specs.Which.{pick}

-- the bytes of a side, as reads give them
abbrev pub memory_bytes : MemDisk → Which → List ℕ
memory_bytes disk = pick disk.a.bytes.items disk.b.bytes.items

-- what a crash may leave, now and at every moment so far
abbrev pub memory_moments : MemDisk → Moments
memory_moments disk = moments_of (made disk.calls.items disk.written.items)

-- how many calls failed
abbrev pub memory_faults : MemDisk → ℕ
memory_faults disk = disk.faults

-- there is room for so many more calls, which write so many bytes in all
pub record HasRoom (disk : MemDisk) (calls bytes : ℕ) : Type 0 where
  pub for_calls : vec_len disk.calls + calls ≤ vec_capacity disk.calls
  pub for_written : vec_len disk.written + bytes ≤ vec_capacity disk.written
  pub for_a : vec_len disk.a.bytes + bytes ≤ vec_capacity disk.a.bytes
  pub for_b : vec_len disk.b.bytes + bytes ≤ vec_capacity disk.b.bytes

-- where there was room for the call, it succeeds, and the rest of the room is left
abbrev pub UsesRoom : {T E : Type 0} → ℕ → Result T E → MemDisk → MemDisk → Type 0
UsesRoom len result old new = (calls bytes : ℕ) → HasRoom old (calls + 1) (len + bytes) → IsOk result × HasRoom new calls bytes

-- what room there was is left
abbrev pub KeepsRoom : MemDisk → MemDisk → Type 0
KeepsRoom old new = (calls bytes : ℕ) → HasRoom old calls bytes → HasRoom new calls bytes
