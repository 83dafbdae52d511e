use Rattle.std.proofs.Common.{◌≡◌, ◌+◌, ◌≤◌, length}
use Rattle.mk_target_lines.specs.Cut.{onto, cut_behind, cut}
use Rattle.mk_target_lines.proofs.cut.cut.Given as goal

abbrev pub invariant-loop-byte : goal.invariant-loop-byte
invariant-loop-byte l = (onto l.front.items (cut_behind l.mark l.held l.rest) ≡ cut l.mark l.text) × (l.held + length l.rest ≤ length l.text)

abbrev pub decreases-loop-byte : goal.decreases-loop-byte
decreases-loop-byte l = length l.rest
