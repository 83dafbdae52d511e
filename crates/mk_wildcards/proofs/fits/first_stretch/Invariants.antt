use Rattle.std.proofs.Common.{◌≡◌, length}
use Rattle.mk_wildcards.specs.Fits.{some_end, fits}
use Rattle.mk_wildcards.proofs.fits.first_stretch.Given as goal

abbrev pub invariant-loop-behind : goal.invariant-loop-behind
invariant-loop-behind l = some_end (fits l.elements) l.rest ≡ some_end (fits l.elements) l.name

abbrev pub decreases-loop-behind : goal.decreases-loop-behind
decreases-loop-behind l = length l.rest
