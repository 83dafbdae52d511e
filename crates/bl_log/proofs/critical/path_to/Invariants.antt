use Rattle.bl_log.proofs.CriticalLemmas.{IsTraced}
use Rattle.bl_log.proofs.critical.path_to.Given as goal

abbrev pub invariant-loop-before : goal.invariant-loop-before
invariant-loop-before l = IsTraced l.spans l.prerequisites l.reached l.path.items l.fn.last l.first

abbrev pub decreases-loop-before : goal.decreases-loop-before
decreases-loop-before l = l.first
