use Rattle.std.proofs.Common.{◌≡◌, length}
use Rattle.mk_target_lines.specs.OneLine.{one_line_behind, one_line}
use Rattle.mk_target_lines.proofs.one_line.one_line.Given as goal

abbrev pub invariant-loop-byte : goal.invariant-loop-byte
invariant-loop-byte l = one_line_behind l.begins l.made.items l.rest ≡ one_line l.text

abbrev pub decreases-loop-byte : goal.decreases-loop-byte
decreases-loop-byte l = length l.rest
