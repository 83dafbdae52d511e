-- A side that is refused, whichever versions are read.
use Rattle.std.specs.Prelude.{ℕ, List}
use Rattle.st_disk.specs.declared.which.Which.{Which}
use Rattle.st_records.specs.declared.version.Form.{Form}
use Rattle.st_file.specs.declared.fault.OpenFault.{OpenFault}
use Rattle.st_file.specs.declared.fault.OpenFault.TheVariants as faults
use Rattle.st_file.specs.Side.{IsRefusedIn, IsOfSide}

-- the fault is one of its bytes
pub of_side : (newest : Form) (side : Which) (x : List ℕ) (fault : OpenFault) → IsRefusedIn newest side x fault → IsOfSide side fault
of_side newest side x (faults.NotState s) refuses = refuses.0
of_side newest side x (faults.UnknownVersion s version) refuses = refuses.0
of_side newest side x (faults.Damaged s place) refuses = refuses.0
of_side newest side x faults.Device refuses = refuses
of_side newest side x faults.OutOfMemory refuses = refuses
of_side newest side x faults.SameGeneration refuses = refuses
