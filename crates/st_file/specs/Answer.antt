-- What a function answered, as a reading of the side's bytes.
use Rattle.std.specs.Prelude.{Option, Some, None, Result, Ok, Err}
use Rattle.st_file.specs.declared.fault.OpenFault.{OpenFault}
use Rattle.st_file.specs.declared.fault.OpenFault.TheVariants as faults
use Rattle.st_file.specs.declared.side.Side.{Side}
use Rattle.st_file.specs.declared.side.Side.TheVariants as sides
use Rattle.st_file.specs.Side.{Reading, blank, holding, refused}

-- the reading that was answered; none where memory ran out
abbrev pub reading_of : Result Side OpenFault → Option Reading
reading_of (Ok sides.Void) = Some blank
reading_of (Ok (sides.Holding v generation held end)) = Some (holding v generation held.items end)
reading_of (Err (faults.NotState s)) = Some (refused (faults.NotState s))
reading_of (Err (faults.UnknownVersion s version)) = Some (refused (faults.UnknownVersion s version))
reading_of (Err (faults.Damaged s place)) = Some (refused (faults.Damaged s place))
reading_of (Err faults.Device) = Some (refused faults.Device)
reading_of (Err faults.OutOfMemory) = None
reading_of (Err faults.SameGeneration) = Some (refused faults.SameGeneration)
