-- A side's reading, once the bytes are known to be a disk's.
use Rattle.std.proofs.Common.{◌≡◌, ◌⊎◌, ℕ, List, Result, Ok, Err, refl, inl, inr}
use Rattle.std.specs.Prelude.{IfSome, IfOk, IfErr}
use Rattle.st_disk.specs.declared.which.Which.{Which}
use Rattle.st_file.specs.declared.fault.OpenFault.{OpenFault}
use Rattle.st_file.specs.declared.fault.OpenFault.TheVariants as faults
use Rattle.st_file.specs.declared.side.Side.{Side}
use Rattle.st_file.specs.Side.{IsRefused, Reads}
use Rattle.st_file.specs.Answer.{reading_of}

refused_of : (side : Which) (x : List ℕ) (fault : OpenFault) → IfSome (reading_of (Err fault)) (Reads side x) → (fault ≡ faults.Device) ⊎ ((fault ≡ faults.OutOfMemory) ⊎ IsRefused side x fault)
refused_of side x (faults.NotState s) is = inr (inr is)
refused_of side x (faults.UnknownVersion s version) is = inr (inr is)
refused_of side x (faults.Damaged s place) is = inr (inr is)
refused_of side x faults.Device is = inl refl
refused_of side x faults.OutOfMemory is = inr (inl refl)
refused_of side x faults.SameGeneration is = inr (inr is)

pub refused_so : (side : Which) (x : List ℕ) (result : Result Side OpenFault) → IfSome (reading_of result) (Reads side x) → IfErr result (λ fault. (fault ≡ faults.Device) ⊎ ((fault ≡ faults.OutOfMemory) ⊎ IsRefused side x fault))
refused_so side x (Ok found) is = tt
refused_so side x (Err fault) is = refused_of side x fault is

pub found_so : (side : Which) (x : List ℕ) (result : Result Side OpenFault) → IfSome (reading_of result) (Reads side x) → IfOk result (λ _. IfSome (reading_of result) (Reads side x))
found_so side x (Ok found) is = is
found_so side x (Err fault) is = tt
