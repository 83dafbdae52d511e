use Rattle.std.proofs.Common.{◌≡◌, ◌++◌, drop}
use Rattle.dmk_run.specs.Judged.{remade_by}
use Rattle.dmk_run.proofs.judging.marks_of.Given as goal

-- those so far, and the others by what is left
abbrev pub invariant-loop-end : goal.invariant-loop-end
invariant-loop-end l = l.marks.items ++ remade_by (drop l.end-index l.ends) l.left ≡ remade_by l.ends l.same
