use Rattle.std.proofs.Common.{◌≡◌, ◌+◌, ◌≤◌, length, take}
use Rattle.std.specs.List.{suffix_len}
use Rattle.mk_target_lines.specs.OneLine.{is_backslash}
use Rattle.mk_target_lines.proofs.one_line.trailing_backslashes.Given as goal

abbrev pub invariant-loop-end : goal.invariant-loop-end
invariant-loop-end l =
    (l.end ≤ length l.bytes) × (l.end + suffix_len is_backslash l.bytes ≡ length l.bytes + suffix_len is_backslash (take l.end l.bytes))

abbrev pub decreases-loop-end : goal.decreases-loop-end
decreases-loop-end l = l.end
