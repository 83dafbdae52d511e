use Rattle.std.proofs.Common.{◌≡◌, ◌++◌}
use Rattle.mk_gnu_items.specs.Names.{spelled}
use Rattle.mk_gnu_items.proofs.spelled.push_spelled.Given as goal

abbrev pub invariant-loop-name : goal.invariant-loop-name
invariant-loop-name l = l.out.items ++ spelled l.name-iterator ≡ l.fn.out.items ++ spelled l.names
