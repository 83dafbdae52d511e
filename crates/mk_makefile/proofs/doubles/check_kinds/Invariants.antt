use Rattle.std.specs.List.{AllWithin}
use Rattle.mk_makefile.proofs.DoubleLemmas.{IsFree}
use Rattle.mk_makefile.proofs.doubles.check_kinds.Given as goal

abbrev pub invariant-loop-line : goal.invariant-loop-line
invariant-loop-line l = AllWithin (IsFree l.lines) l.lines 0 l.line-index
