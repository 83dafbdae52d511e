use Rattle.std.proofs.Common.{◌≡◌, take}
use Rattle.mk_rule_lines.specs.Pools.{HasNoPoolFault, names_in_pools}
use Rattle.mk_rule_lines.proofs.pool_faults.check_pools.Given as goal

-- the names of the lines above, none of which is refused
abbrev pub invariant-loop-line : goal.invariant-loop-line
invariant-loop-line l = (l.seen ≡ names_in_pools (take l.line-index l.lines)) × HasNoPoolFault (take l.line-index l.lines)
