use Rattle.std.proofs.Common.{◌≡◌, ◌-◌, List}
use Rattle.st_marks.specs.declared.mark.Mark.{Mark}
use Rattle.st_marks.specs.Reading.{mark_at, many_at}
use Rattle.st_marks.proofs.ManyLemmas.{with_front}
use Rattle.st_marks.proofs.marks.behind_marks.Given as goal

-- the marks that were passed over
abbrev pub invariant-loop : goal.invariant-loop
invariant-loop l = (front : List Mark) × (with_front front (many_at mark_at (l.count - l.counter) l.rest) ≡ many_at mark_at l.count l.bytes)
