use Rattle.std.proofs.Common.{◌≡◌, ◌++◌}
use Rattle.mk_makefile.proofs.forms.joined.Given as goal

abbrev pub invariant-loop-name : goal.invariant-loop-name
invariant-loop-name l = l.all ++ l.name-iterator ≡ l.fn.names ++ l.others
