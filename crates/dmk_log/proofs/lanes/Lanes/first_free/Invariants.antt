use Rattle.std.proofs.Common.{◌≢◌, ℕ, ◌<◌, None}
use Rattle.dmk_log.specs.Lanes.{runs_in}
use Rattle.dmk_log.proofs.lanes.Lanes.first_free.Given as goal

abbrev pub invariant-loop-lane : goal.invariant-loop-lane
invariant-loop-lane l = (other : ℕ) → other < l.lane → runs_in l.self.lanes.items other ≢ None
