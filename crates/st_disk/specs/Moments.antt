-- The moments of a disk: before its first call, and after each call that may change what a crash leaves. What a crash
-- may leave in the midst of a call, it may leave after that call (a write, a cut) or before it (a sync).
use Rattle.std.specs.Prelude.{◌≡◌, ◌⊎◌, ℕ, ◌+◌, ◌≤◌, List}
use Rattle.st_disk.specs.declared.which.Which.{Which}
use Rattle.st_disk.specs.Crash.{Sides, settled, written_at, cut_to, writes_of, with_writes}

-- the unsynced writes at each moment so far, the moments numbered from 0; what `at` says past the newest means nothing
pub record Moments : Type 0 where
  pub newest : ℕ
  pub at : ℕ → Sides

-- this moment
abbrev pub now : Moments → Sides
now moments = moments.at moments.newest

-- this moment's unsynced writes, with one write, one cut or one successful sync of a side more
abbrev pub after_write : Which → ℕ → ℕ → Moments → Sides
after_write side at n moments = with_writes side (written_at at n (writes_of side (now moments))) (now moments)

abbrev pub after_cut : Which → ℕ → Moments → Sides
after_cut side len moments = with_writes side (cut_to len (writes_of side (now moments))) (now moments)

abbrev pub after_sync : Which → List ℕ → Moments → Sides
after_sync side bytes moments = with_writes side (settled bytes) (now moments)

-- one moment more, with these unsynced writes; the earlier ones stay
pub record Passes (sides : Sides) (old new : Moments) : Type 0 where
  pub next : new.newest ≡ old.newest + 1
  pub here : now new ≡ sides
  pub kept : (k : ℕ) → k ≤ old.newest → new.at k ≡ old.at k

-- none more, or that one
abbrev pub MayPass : Sides → Moments → Moments → Type 0
MayPass sides old new = (new ≡ old) ⊎ Passes sides old new

-- at every moment since the old one, it and the new one included, the unsynced writes have P
pub record Throughout (old new : Moments) (P : Sides → Type 0) : Type 0 where
  pub no_fewer : old.newest ≤ new.newest
  pub kept : (k : ℕ) → k ≤ old.newest → new.at k ≡ old.at k
  pub each : (k : ℕ) → old.newest ≤ k → k ≤ new.newest → P (new.at k)
