use Rattle.dmk_parts.proofs.PartLemmas.{AreCut}
use Rattle.dmk_parts.proofs.parts.in_parts.Given as goal

abbrev pub invariant-loop-goal : goal.invariant-loop-goal
invariant-loop-goal l = AreCut l.goals l.goal-iterator l.parts.items l.part
