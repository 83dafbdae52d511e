use Rattle.dmk_parts.proofs.BehindLemmas.{AreCausesSoFar}
use Rattle.dmk_parts.proofs.causes.causes_in.Given as goal

abbrev pub invariant-loop-node : goal.invariant-loop-node
invariant-loop-node l = AreCausesSoFar l.known l.counting l.graph l.causes.items l.node
