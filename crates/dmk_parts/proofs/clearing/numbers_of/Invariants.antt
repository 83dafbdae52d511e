use Rattle.dmk_parts.proofs.BehindLemmas.{AreNumberedSoFar}
use Rattle.dmk_parts.proofs.clearing.numbers_of.Given as goal

abbrev pub invariant-loop-name : goal.invariant-loop-name
invariant-loop-name l = AreNumberedSoFar l.graph l.numbers.items l.names l.name-iterator
