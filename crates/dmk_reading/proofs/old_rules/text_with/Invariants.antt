use Rattle.std.proofs.Common.{◌≡◌, ◌++◌}
use Rattle.byte_strings.specs.Blanks.{words}
use Rattle.dmk_reading.specs.OldRules.{text_with, chosen}
use Rattle.dmk_reading.proofs.old_rules.text_with.Given as goal

abbrev pub invariant-loop-word : goal.invariant-loop-word
invariant-loop-word l = l.made.items ++ text_with (chosen l.old l.among l.word-iterator) ≡ text_with (chosen l.old l.among (words l.text))
