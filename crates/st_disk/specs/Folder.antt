-- What calls leave of the facts of a folder's sides.
use Rattle.std.specs.Prelude.{◌≡◌, Bool, true}
use Rattle.st_disk.specs.declared.which.Which.{Which}

-- what was true of a side stays true of it
abbrev pub StaysAt : Which → (Which → Bool) → (Which → Bool) → Type 0
StaysAt side old new = old side ≡ true → new side ≡ true

-- the same of both sides
abbrev pub Stays : (Which → Bool) → (Which → Bool) → Type 0
Stays old new = (side : Which) → old side ≡ true → new side ≡ true
