use Rattle.std.proofs.Common.{◌≡◌, ◌++◌}
use Rattle.mk_settings.proofs.settings.add_patterns.Given as goal

abbrev pub invariant-loop-word : goal.invariant-loop-word
invariant-loop-word l = l.patterns ++ l.word-iterator ≡ l.fn.patterns ++ l.line.prerequisites
