-- The two sides.
use Rattle.st_disk.specs.declared.which.Which.{Which}
use Rattle.st_disk.specs.declared.which.Which.TheVariants.{A, B}

-- the one of A or the one of B
abbrev pub pick : {X : Type 0} → X → X → Which → X
pick a b A = a
pick a b B = b
