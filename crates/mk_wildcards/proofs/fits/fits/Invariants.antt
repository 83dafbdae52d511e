use Rattle.std.proofs.Common.{◌≡◌}
use Rattle.mk_wildcards.specs.Fits.{fits}
use Rattle.mk_wildcards.specs.Places.{left, size}
use Rattle.mk_wildcards.proofs.fits.fits.Given as goal

abbrev pub invariant-loop-place : goal.invariant-loop-place
invariant-loop-place l = left l.place ≡ fits l.elements l.name

abbrev pub decreases-loop-place : goal.decreases-loop-place
decreases-loop-place l = size l.place
