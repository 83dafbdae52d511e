use Rattle.std.proofs.Common.{◌≡◌, ◌+◌, ◌≤◌, false, length, option_copied}
use Rattle.mk_depfiles.specs.Depfile.{joined, names_of_lines}
use Rattle.mk_depfiles.specs.Gathering.{lines_left, size_left}
use Rattle.mk_depfiles.specs.Lines.{lines}
use Rattle.mk_depfiles.proofs.reading.names_of_lines.Given as goal

abbrev pub invariant-loop-left : goal.invariant-loop-left
invariant-loop-left l = record {
  room : l.number + size_left (option_copied l.left) ≤ length l.text + 2;
  value : joined l.names (names_of_lines l.number (lines_left (option_copied l.left))) ≡ names_of_lines 1 (lines false l.text);
}

abbrev pub decreases-loop-left : goal.decreases-loop-left
decreases-loop-left l = size_left (option_copied l.left)
