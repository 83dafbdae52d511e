-- How a disk counts the calls that failed.
use Rattle.std.specs.Prelude.{◌≡◌, ◌⊎◌, ℕ, ◌+◌, ◌-◌, ◌^◌, ◌≤◌, Result, OnOk, OnErr}
use Rattle.st_disk.specs.declared.fault.DeviceFault.{DeviceFault}

-- one more; at its last value the count stays
abbrev pub Rises : ℕ → ℕ → Type 0
Rises old new = (new ≡ old + 1) ⊎ ((2 ^ 64 - 1 ≤ old) × (new ≡ old))

-- a fault counts once, a success not at all
pub record CountsFaults {T : Type 0} (result : Result T DeviceFault) (old new : ℕ) : Type 0 where
  pub success : OnOk result (new ≡ old)
  pub fault : OnErr result (Rises old new)
