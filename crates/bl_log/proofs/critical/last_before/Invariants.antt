use Rattle.bl_log.specs.Reached.{IsLast}
use Rattle.bl_log.proofs.critical.last_before.Given as goal

abbrev pub invariant-loop-prerequisite : goal.invariant-loop-prerequisite
invariant-loop-prerequisite l = IsLast l.spans l.row l.sums l.number l.prerequisite-index l.found
