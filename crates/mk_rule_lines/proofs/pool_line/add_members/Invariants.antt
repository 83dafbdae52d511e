use Rattle.std.proofs.Common.{◌≡◌}
use Rattle.mk_names.specs.Names.{all_added}
use Rattle.mk_rule_lines.specs.Pools.{members_in}
use Rattle.mk_rule_lines.proofs.pool_line.add_members.Given as goal

abbrev pub invariant-loop-word : goal.invariant-loop-word
invariant-loop-word l = all_added l.names l.word-iterator ≡ all_added l.fn.names (members_in l.line.prerequisites)
