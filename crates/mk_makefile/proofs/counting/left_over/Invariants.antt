use Rattle.mk_makefile.proofs.InForceLemmas.{SoFar}
use Rattle.mk_makefile.proofs.counting.left_over.Given as goal

abbrev pub decreases-loop-line : goal.decreases-loop-line
decreases-loop-line l = l.lines.len

abbrev pub invariant-loop-line : goal.invariant-loop-line
invariant-loop-line l = SoFar l.suffixes l.fn.lines.items l.lines.items l.taking.items l.left.items
