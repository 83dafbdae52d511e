use Rattle.bl_log.proofs.LaneLemmas.{ArePlaced}
use Rattle.bl_log.proofs.lane.lanes.Given as goal

abbrev pub invariant-loop-number : goal.invariant-loop-number
invariant-loop-number l = ArePlaced l.spans l.lanes.items l.free_from.items l.number
