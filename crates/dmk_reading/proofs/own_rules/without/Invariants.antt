use Rattle.std.proofs.Common.{◌≡◌, ◌++◌, drop, filter, not}
use Rattle.byte_strings.specs.Blanks.{words}
use Rattle.dmk_reading.specs.BuiltIn.{texts}
use Rattle.mk_rule_lines.specs.Rules.{has}
use Rattle.dmk_reading.proofs.own_rules.without.Given as goal

abbrev pub invariant-loop-rule : goal.invariant-loop-rule
invariant-loop-rule l =
    texts l.left.items
    ++ filter (λ rule. not (has rule.0 (words l.text))) (texts (drop l.rule-index l.rules))
    ≡ filter (λ rule. not (has rule.0 (words l.text))) (texts l.rules)
