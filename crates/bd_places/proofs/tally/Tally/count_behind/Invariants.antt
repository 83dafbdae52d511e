use Rattle.std.proofs.Common.{◌≡◌, ℕ, ◌+◌, ◌-◌, Some, length, slice_get, take}
use Rattle.bd_places.specs.Tally.{prerequisites_of, IsTallied}
use Rattle.bd_places.proofs.SettleLemmas.{place}
use Rattle.bd_places.proofs.tally.Tally.count_behind.Given as goal

-- all up to the last one are counted
abbrev pub invariant-loop-node : goal.invariant-loop-node
invariant-loop-node l = record {
  edges : prerequisites_of l.self ≡ prerequisites_of l.fn.self;
  tallied : (k : ℕ) × (slice_get l.links.lists.settled k ≡ Some l.last) × IsTallied l.self (take (k + 1) l.links.lists.settled) l.ends;
}

abbrev pub decreases-loop-node : goal.decreases-loop-node
decreases-loop-node l = length l.links.lists.settled - place l.last l.links.lists.settled
