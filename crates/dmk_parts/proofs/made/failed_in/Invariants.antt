use Rattle.dmk_parts.proofs.BehindLemmas.{AreFailedSoFar}
use Rattle.dmk_parts.proofs.made.failed_in.Given as goal

abbrev pub invariant-loop-node : goal.invariant-loop-node
invariant-loop-node l = AreFailedSoFar l.graph l.ends l.node l.failed
