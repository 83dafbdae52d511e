use Rattle.std.proofs.Common.{◌≡◌, ◌++◌, map, option_copied}
use Rattle.mk_lines.specs.Lines.{size_left}
use Rattle.mk_statements.specs.Reading.{outside, statements_left, statements, stated}
use Rattle.mk_statements.proofs.statements.statements_of.Given as goal

abbrev pub invariant-loop-left : goal.invariant-loop-left
invariant-loop-left l = map stated l.lines.items ++ statements_left outside l.number (option_copied l.left) ≡ statements l.text

abbrev pub decreases-loop-left : goal.decreases-loop-left
decreases-loop-left l = size_left (option_copied l.left)
