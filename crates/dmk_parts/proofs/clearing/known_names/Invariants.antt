use Rattle.dmk_parts.proofs.BehindLemmas.{AreKnownSoFar}
use Rattle.dmk_parts.proofs.clearing.known_names.Given as goal

abbrev pub invariant-loop-name : goal.invariant-loop-name
invariant-loop-name l = AreKnownSoFar l.made l.known l.name-iterator
