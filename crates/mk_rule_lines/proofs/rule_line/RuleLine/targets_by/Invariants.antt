use Rattle.std.proofs.Common.{◌≡◌, ◌++◌, filter}
use Rattle.mk_rule_lines.specs.Rules.{comes_out, is_suffix_target}
use Rattle.mk_rule_lines.proofs.rule_line.RuleLine.targets_by.Given as goal

abbrev pub invariant-loop-target : goal.invariant-loop-target
invariant-loop-target l =
    l.targets ++ filter (λ t. comes_out l.suffix_rules (is_suffix_target l.suffixes l.self t)) l.target-iterator
    ≡ filter (λ t. comes_out l.suffix_rules (is_suffix_target l.suffixes l.self t)) l.self.targets
