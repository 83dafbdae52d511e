use Rattle.bl_log.specs.Reached.{AreReached}
use Rattle.bl_log.proofs.critical.reached.Given as goal

abbrev pub invariant-loop-number : goal.invariant-loop-number
invariant-loop-number l = AreReached l.spans l.prerequisites l.sums.items l.number
