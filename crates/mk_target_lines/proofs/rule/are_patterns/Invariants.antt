use Rattle.std.proofs.Common.{◌≡◌}
use Rattle.std.specs.List.{list_all}
use Rattle.mk_target_lines.specs.Rule.{is_pattern}
use Rattle.mk_target_lines.proofs.rule.are_patterns.Given as goal

abbrev pub invariant-loop-name : goal.invariant-loop-name
invariant-loop-name l = list_all is_pattern l.name-iterator ≡ list_all is_pattern l.fn.names
