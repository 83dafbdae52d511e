use Rattle.std.proofs.Common.{length}
use Rattle.mk_target_lines.proofs.NameLemmas.{IsLeft}
use Rattle.mk_target_lines.proofs.names.names_of.Given as goal

abbrev pub invariant-loop-byte : goal.invariant-loop-byte
invariant-loop-byte l = IsLeft l.stop l.text l.names l.start

abbrev pub decreases-loop-byte : goal.decreases-loop-byte
decreases-loop-byte l = length l.start
