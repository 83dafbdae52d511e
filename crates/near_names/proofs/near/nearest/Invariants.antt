use Rattle.std.proofs.Common.{◌≡◌, ◌++◌, List, ℕ}
use Rattle.near_names.proofs.NearLemmas.{IsSoFar}
use Rattle.near_names.proofs.near.nearest.Given as goal

abbrev pub invariant-loop-other : goal.invariant-loop-other
invariant-loop-other l = (seen : List (List ℕ)) × (l.among ≡ seen ++ l.other-iterator) × IsSoFar l.name seen l.found
