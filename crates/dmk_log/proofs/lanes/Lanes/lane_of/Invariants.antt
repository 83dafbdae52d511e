use Rattle.std.proofs.Common.{◌≢◌, ℕ, ◌<◌, Some}
use Rattle.dmk_log.specs.Lanes.{runs_in}
use Rattle.dmk_log.proofs.lanes.Lanes.lane_of.Given as goal

abbrev pub invariant-loop-lane : goal.invariant-loop-lane
invariant-loop-lane l = (other : ℕ) → other < l.lane → runs_in l.self.lanes.items other ≢ Some l.target
