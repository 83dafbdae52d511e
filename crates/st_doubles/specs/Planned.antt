-- What a `Planned` disk makes of a call.
use Rattle.std.specs.Prelude.{◌≡◌, Bool, true, false, Result, IsErr}
use Rattle.st_disk.specs.declared.fault.DeviceFault.{DeviceFault}
use Rattle.st_doubles.specs.declared.planned.Planned.{Planned}

-- the plan goes on by one call; a call that it fails is refused and not made, and no other one is refused
pub record Follows {T D P : Type 0} (fails : Bool) (rest : P) (result : Result T DeviceFault) (old new : Planned D P) : Type 0 where
  pub plan : new.plan ≡ rest
  pub refused : fails ≡ true → IsErr result × (new.inner ≡ old.inner)
  pub passed : fails ≡ false → new.refused ≡ old.refused
