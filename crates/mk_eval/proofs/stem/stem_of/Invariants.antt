use Rattle.std.proofs.Common.{◌≡◌, ℕ, true, List, length}
use Rattle.mk_eval.specs.Static.{has_percent}
use Rattle.mk_eval.proofs.StemLemmas.{IsStem}
use Rattle.mk_eval.proofs.stem.stem_of.Given as goal

abbrev pub invariant-loop-byte : goal.invariant-loop-byte
invariant-loop-byte l = record {
  narrows : (stem : List ℕ) → IsStem l.pattern l.target stem → IsStem l.left l.rest stem;
  widens : (stem : List ℕ) → IsStem l.left l.rest stem → IsStem l.pattern l.target stem;
  some : has_percent l.left ≡ true;
}

abbrev pub decreases-loop-byte : goal.decreases-loop-byte
decreases-loop-byte l = length l.left
