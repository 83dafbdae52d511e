use Rattle.std.proofs.Common.{◌≡◌, drop}
use Rattle.jb_marks.specs.Tests.{is_same}
use Rattle.jb_marks.proofs.same.are_still.Given as goal

abbrev pub invariant-loop-was : goal.invariant-loop-was
invariant-loop-was l = is_same (drop l.was-index l.before) l.left ≡ is_same l.before l.behind
