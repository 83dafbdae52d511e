use Rattle.std.proofs.Common.{◌≡◌, ◌≤◌, true, length, drop}
use Rattle.mk_wildcards.specs.Fits.{some_end, fits}
use Rattle.mk_wildcards.proofs.fits.stretch.Given as goal

abbrev pub invariant-loop-element : goal.invariant-loop-element
invariant-loop-element l = record {
  value : fits l.now l.rest ≡ fits l.elements l.name;
  later : some_end (fits l.elements) (drop 1 l.name) ≡ true → some_end (fits l.now) (drop 1 l.rest) ≡ true;
  shorter : length l.now ≤ length l.elements;
}

abbrev pub decreases-loop-element : goal.decreases-loop-element
decreases-loop-element l = length l.now
