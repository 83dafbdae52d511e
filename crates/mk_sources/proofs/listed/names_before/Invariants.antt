use Rattle.std.proofs.Common.{◌≡◌, take}
use Rattle.mk_sources.proofs.listed.names_before.Given as goal

abbrev pub invariant-loop-number : goal.invariant-loop-number
invariant-loop-number l = l.before ≡ take l.number l.names
