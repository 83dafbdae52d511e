use Rattle.std.proofs.Common.{◌≡◌}
use Rattle.mk_rule_lines.specs.Rules.{added}
use Rattle.mk_rule_lines.proofs.suffixes.add_names.Given as goal

abbrev pub invariant-loop-name : goal.invariant-loop-name
invariant-loop-name l = added l.suffixes l.name-iterator ≡ added l.fn.suffixes l.names
