use Rattle.std.proofs.Common.{◌≡◌}
use Rattle.byte_strings.specs.Blanks.{words}
use Rattle.mk_rule_lines.specs.Rules.{has}
use Rattle.dmk_reading.proofs.own_rules.has_word.Given as goal

abbrev pub invariant-loop-word : goal.invariant-loop-word
invariant-loop-word l = has l.name l.word-iterator ≡ has l.name (words l.text)
