use Rattle.std.proofs.Common.{◌≡◌, false, length}
use Rattle.mk_depfiles.specs.Lines.{quotes}
use Rattle.mk_depfiles.proofs.lines.quotes.Given as goal

abbrev pub invariant-loop-byte : goal.invariant-loop-byte
invariant-loop-byte l = quotes l.is_quoted l.rest ≡ quotes false l.text

abbrev pub decreases-loop-byte : goal.decreases-loop-byte
decreases-loop-byte l = length l.rest
