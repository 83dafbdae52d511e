use Rattle.std.specs.List.{AllWithin}
use Rattle.mk_makefile.specs.Supported.{IsSupported}
use Rattle.mk_makefile.proofs.supported.check_lines.Given as goal

abbrev pub invariant-loop-line : goal.invariant-loop-line
invariant-loop-line l = AllWithin IsSupported l.lines 0 l.line-index
