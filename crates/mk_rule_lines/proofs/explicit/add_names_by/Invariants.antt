use Rattle.std.proofs.Common.{◌≡◌, ◌++◌}
use Rattle.mk_rule_lines.specs.Explicit.{without_waits, names_by}
use Rattle.mk_rule_lines.proofs.BarLemmas.{left_by}
use Rattle.mk_rule_lines.proofs.explicit.add_names_by.Given as goal

abbrev pub invariant-loop-word : goal.invariant-loop-word
invariant-loop-word l =
    l.names ++ without_waits (left_by l.line.profile l.order_only l.is_behind l.word-iterator)
    ≡ l.fn.names ++ names_by l.order_only l.line
