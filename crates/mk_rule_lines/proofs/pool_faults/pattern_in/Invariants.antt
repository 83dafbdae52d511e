use Rattle.std.proofs.Common.{◌≡◌, true, List, ℕ}
use Rattle.std.specs.List.{list_any}
use Rattle.mk_rule_lines.specs.Pools.{members_in}
use Rattle.mk_rule_lines.specs.Rules.{has, has_percent}
use Rattle.mk_rule_lines.proofs.pool_faults.pattern_in.Given as goal

-- the names that are left are of the line, and those before them pass no test
abbrev pub invariant-loop-name : goal.invariant-loop-name
invariant-loop-name l = ((n : List ℕ) → has n l.name-iterator ≡ true → has n (members_in l.line.prerequisites) ≡ true)
    × (list_any has_percent (members_in l.line.prerequisites) ≡ list_any has_percent l.name-iterator)
