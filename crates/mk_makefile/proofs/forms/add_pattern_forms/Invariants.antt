use Rattle.std.proofs.Common.{◌≡◌, ◌++◌, drop}
use Rattle.mk_makefile.specs.Forms.{pattern_forms}
use Rattle.mk_makefile.proofs.forms.add_pattern_forms.Given as goal

abbrev pub invariant-loop-i : goal.invariant-loop-i
invariant-loop-i l = l.forms.items ++ pattern_forms l.i (drop l.i l.lines) ≡ l.fn.forms.items ++ pattern_forms 0 l.lines
