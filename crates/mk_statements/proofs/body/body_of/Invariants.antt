use Rattle.std.proofs.Common.{◌≡◌, ℕ, ◌+◌, ◌≤◌, List, [], length, Some, option_copied}
use Rattle.mk_lines.specs.Lines.{size_left}
use Rattle.mk_statements.specs.Reading.{within, statements_left}
use Rattle.mk_statements.proofs.body.body_of.Given as goal

abbrev pub invariant-loop-left : goal.invariant-loop-left
invariant-loop-left l = record {
  deep : l.depth + size_left (option_copied l.left) ≤ length l.bytes + 1;
  same : (line : ℕ) (opening : List ℕ) → statements_left (within line opening l.depth l.lines.items) l.number (option_copied l.left)
      ≡ statements_left (within line opening 0 []) l.first (Some l.bytes);
}

abbrev pub decreases-loop-left : goal.decreases-loop-left
decreases-loop-left l = size_left (option_copied l.left)
