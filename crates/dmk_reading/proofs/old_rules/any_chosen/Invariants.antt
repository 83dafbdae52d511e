use Rattle.std.proofs.Common.{◌≡◌}
use Rattle.byte_strings.specs.Blanks.{words}
use Rattle.dmk_reading.specs.OldRules.{any_chosen}
use Rattle.dmk_reading.proofs.old_rules.any_chosen.Given as goal

abbrev pub invariant-loop-word : goal.invariant-loop-word
invariant-loop-word l = any_chosen l.old l.among l.word-iterator ≡ any_chosen l.old l.among (words l.text)
