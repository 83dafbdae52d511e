use Rattle.std.proofs.Common.{◌≡◌, ◌++◌, map}
use Rattle.mk_makefile.specs.Forms.{further_form}
use Rattle.mk_makefile.proofs.forms.add_further_forms.Given as goal

abbrev pub invariant-loop-other : goal.invariant-loop-other
invariant-loop-other l =
    l.forms.items ++ map (further_form l.rule l.line l.leader) l.other-iterator
    ≡ l.fn.forms.items ++ map (further_form l.rule l.line l.leader) l.others
