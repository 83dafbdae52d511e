-- What an `OpenSide` knows of its file.
use Rattle.std.specs.Prelude.{◌≡◌, Bool, true}
use Rattle.st_disk.specs.declared.which.Which.{Which}
use Rattle.st_disk.specs.declared.open_side.Found.{Found}
use Rattle.st_disk.specs.declared.open_side.Found.TheVariants.{Missing, There}

-- the handle is one of this side's file; what was found missing is missing; a name that was synced is on the disk; and
-- no write, cut or sync of the side has failed
pub record Fits {T : Type 0} (side_of : T → Which) (missing durable sound : Which → Bool) (side : Which) (found : Found T) (name_synced : Bool) : Type 0 where
  pub own : (file : T) → found ≡ There file → side_of file ≡ side
  pub absent : found ≡ Missing → missing side ≡ true
  pub named : name_synced ≡ true → durable side ≡ true
  pub healthy : sound side ≡ true
