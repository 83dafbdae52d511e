use Rattle.std.proofs.Common.{◌≡◌}
use Rattle.mk_rule_lines.specs.Explicit.{before_bar, without_waits, names_in}
use Rattle.mk_plan.proofs.explicit_words.first_in.Given as goal

abbrev pub invariant-loop-word : goal.invariant-loop-word
invariant-loop-word l = without_waits (before_bar l.line.profile l.word-iterator) ≡ names_in l.line
