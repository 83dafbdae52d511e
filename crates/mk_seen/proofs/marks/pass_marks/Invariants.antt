use Rattle.std.proofs.Common.{◌≡◌, drop}
use Rattle.mk_seen.specs.Marks.{marks_behind}
use Rattle.mk_seen.proofs.marks.pass_marks.Given as goal

abbrev pub invariant-loop-look : goal.invariant-loop-look
invariant-loop-look l = marks_behind (drop l._look-index l.looks) l.kept ≡ marks_behind l.looks l.fn.kept
