use Rattle.std.proofs.Common.{◌≡◌, ◌++◌}
use Rattle.mk_rule_lines.specs.Explicit.{words_by}
use Rattle.mk_rule_lines.proofs.BarLemmas.{left_by}
use Rattle.mk_rule_lines.proofs.explicit.words_by.Given as goal

abbrev pub invariant-loop-word : goal.invariant-loop-word
invariant-loop-word l =
    l.words ++ left_by l.line.profile l.order_only l.is_behind l.word-iterator ≡ words_by l.order_only l.line
