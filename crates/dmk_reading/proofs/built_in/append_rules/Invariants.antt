use Rattle.std.specs.Prelude.{flat_map}
use Rattle.std.proofs.Common.{◌≡◌, ◌++◌, drop}
use Rattle.dmk_reading.specs.BuiltIn.{texts, rule_lines}
use Rattle.dmk_reading.proofs.built_in.append_rules.Given as goal

abbrev pub invariant-loop-rule : goal.invariant-loop-rule
invariant-loop-rule l =
    l.text.items ++ flat_map (λ rule. rule_lines rule.0 rule.1) (texts (drop l.rule-index l.rules))
    ≡ l.fn.text.items ++ flat_map (λ rule. rule_lines rule.0 rule.1) (texts l.rules)
