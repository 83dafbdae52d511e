use Rattle.std.proofs.Common.{◌≡◌, ◌++◌, drop}
use Rattle.mk_sources.proofs.listed.names_behind.Given as goal

abbrev pub invariant-loop-number : goal.invariant-loop-number
invariant-loop-number l = l.behind ++ drop l.number l.names ≡ drop l.count l.names
