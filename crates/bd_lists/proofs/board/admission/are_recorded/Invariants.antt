use Rattle.std.proofs.Common.{◌≤◌}
use Rattle.bd_lists.proofs.KeptLemmas.{AreKept}
use Rattle.bd_lists.proofs.board.admission.are_recorded.Given as goal

abbrev pub invariant-loop-line : goal.invariant-loop-line
invariant-loop-line l = record { kept : AreKept l.lines l.commands l.line-index l.count; below : l.count ≤ l.line-index }
