use Rattle.std.proofs.Common.{◌-◌, ◌≡◌, ◌≤◌, length, take}
use Rattle.name_keys.proofs.same.same_by.Given as goal

abbrev pub invariant-loop-place : goal.invariant-loop-place
invariant-loop-place g l = (l.place ≤ length l.a) × (take l.place l.a ≡ take l.place l.b)

abbrev pub decreases-loop-place : goal.decreases-loop-place
decreases-loop-place g l = l.last - l.place
