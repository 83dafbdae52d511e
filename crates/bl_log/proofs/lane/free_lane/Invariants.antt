use Rattle.std.proofs.Common.{ℕ, ◌<◌, get_or}
use Rattle.bl_log.proofs.lane.free_lane.Given as goal

abbrev pub invariant-loop-lane : goal.invariant-loop-lane
invariant-loop-lane l = (lane : ℕ) → lane < l.lane → l.time < get_or l.free_from lane 0
