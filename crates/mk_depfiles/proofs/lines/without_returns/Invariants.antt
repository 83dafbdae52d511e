use Rattle.std.proofs.Common.{◌≡◌, ◌++◌, length}
use Rattle.mk_depfiles.specs.Lines.{without_returns}
use Rattle.mk_depfiles.proofs.lines.without_returns.Given as goal

abbrev pub invariant-loop-byte : goal.invariant-loop-byte
invariant-loop-byte l = l.out.items ++ without_returns l.rest ≡ without_returns l.text

abbrev pub decreases-loop-byte : goal.decreases-loop-byte
decreases-loop-byte l = length l.rest
