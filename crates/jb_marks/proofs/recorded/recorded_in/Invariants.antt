use Rattle.std.proofs.Common.{◌≡◌, ◌++◌}
use Rattle.jb_marks.specs.Recorded.{named_with, recorded_in}
use Rattle.jb_marks.proofs.recorded.recorded_in.Given as goal

-- those so far, and the others with the marks that are left
abbrev pub invariant-loop-name : goal.invariant-loop-name
invariant-loop-name l = l.recorded.items ++ named_with l.name-iterator l.marks ≡ recorded_in l.entry
