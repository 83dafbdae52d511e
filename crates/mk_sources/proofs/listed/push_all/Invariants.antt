use Rattle.std.proofs.Common.{◌≡◌, ◌++◌}
use Rattle.mk_sources.proofs.listed.push_all.Given as goal

abbrev pub invariant-loop-name : goal.invariant-loop-name
invariant-loop-name l = l.list ++ l.name-iterator ≡ l.fn.list ++ l.names
