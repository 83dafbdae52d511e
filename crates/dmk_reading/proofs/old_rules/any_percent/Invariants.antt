use Rattle.std.proofs.Common.{◌≡◌}
use Rattle.std.specs.List.{list_any}
use Rattle.byte_strings.specs.Blanks.{words}
use Rattle.mk_rule_lines.specs.Rules.{has_percent}
use Rattle.dmk_reading.proofs.old_rules.any_percent.Given as goal

abbrev pub invariant-loop-word : goal.invariant-loop-word
invariant-loop-word l = list_any has_percent l.word-iterator ≡ list_any has_percent (words l.text)
