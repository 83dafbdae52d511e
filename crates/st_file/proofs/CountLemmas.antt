-- How many moments a run of calls leaves: each call one more at most.
use Rattle.std.proofs.Common.{◌≡◌, ◌+◌, ◌≤◌, ap, inl, inr, arith}
use Rattle.st_disk.specs.Crash.{Sides}
use Rattle.st_disk.specs.Moments.{Moments, MayPass}

pub one_more : {sides : Sides} {old new : Moments} → MayPass sides old new → new.newest ≤ old.newest + 1
one_more (inl same) = omega (arith, ap (λ (m : Moments). m.newest) same)
one_more (inr passes) = omega (arith, passes.next)

-- a call that only looks leaves none
pub none_more : {old new : Moments} → new ≡ old → new.newest ≡ old.newest
none_more same = ap (λ (m : Moments). m.newest) same
