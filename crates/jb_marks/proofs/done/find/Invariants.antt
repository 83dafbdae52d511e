use Rattle.jb_marks.proofs.FindLemmas.{IsPassed}
use Rattle.jb_marks.proofs.done.find.Given as goal

abbrev pub invariant-loop-place : goal.invariant-loop-place
invariant-loop-place l = IsPassed l.known l.name l.place
