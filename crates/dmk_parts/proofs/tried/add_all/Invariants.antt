use Rattle.std.proofs.Common.{◌≡◌, ◌++◌}
use Rattle.dmk_parts.proofs.tried.add_all.Given as goal

abbrev pub invariant-loop-name : goal.invariant-loop-name
invariant-loop-name l = l.names ++ l.name-iterator ≡ l.initial.names ++ l.more
