use Rattle.std.proofs.Common.{◌≡◌, ◌++◌, filter}
use Rattle.mk_rule_lines.specs.Rules.{has_percent}
use Rattle.mk_settings.proofs.marked.Marked.add_patterns.Given as goal

abbrev pub invariant-loop-word : goal.invariant-loop-word
invariant-loop-word l =
    (l.self.all ≡ l.fn.self.all) × (l.self.names ≡ l.fn.self.names)
    × (l.self.patterns ++ filter has_percent l.word-iterator ≡ l.fn.self.patterns ++ filter has_percent l.line.prerequisites)
