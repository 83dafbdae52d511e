use Rattle.std.proofs.Common.{◌≡◌, drop, []}
use Rattle.mk_rule_lines.specs.Rules.{suffixes_after}
use Rattle.mk_rule_lines.proofs.suffixes.suffixes_of.Given as goal

abbrev pub invariant-loop-line : goal.invariant-loop-line
invariant-loop-line l = suffixes_after l.suffixes (drop l.line-index l.lines) ≡ suffixes_after [] l.lines
