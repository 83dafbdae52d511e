use Rattle.std.proofs.Common.{◌≡◌, ◌+◌, ◌≤◌, ◌++◌, length}
use Rattle.mk_target_lines.specs.Cut.{colons_behind, with_colons}
use Rattle.mk_target_lines.proofs.cut.with_colons.Given as goal

abbrev pub invariant-loop-byte : goal.invariant-loop-byte
invariant-loop-byte l = (l.out.items ++ colons_behind l.held l.rest ≡ with_colons l.text) × (l.held + length l.rest ≤ length l.text)

abbrev pub decreases-loop-byte : goal.decreases-loop-byte
decreases-loop-byte l = length l.rest
