use Rattle.std.proofs.Common.{◌≡◌, drop}
use Rattle.st_marks.proofs.marks.behind.Given as goal

abbrev pub invariant-loop : goal.invariant-loop
invariant-loop l = l.left ≡ drop l.counter l.fn.marks
