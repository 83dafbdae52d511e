use Rattle.std.proofs.Common.{arith}
use Rattle.jb_marks.proofs.FindLemmas.{none_passed}
use Rattle.jb_marks.proofs.done.find.Goals as goal

pub returns-clause-none : goal.returns-clause-none
returns-clause-none c = none_passed c.args.known.now c.args.name.now c.loop-place.place (omega arith) c.loop-place.invariant
