use Rattle.std.proofs.Common.{◌≡◌, ◌+◌, ◌≤◌, length}
use Rattle.mk_conditionals.specs.Cut.{behind_mark}
use Rattle.mk_conditionals.proofs.cut.behind_mark.Given as goal

abbrev pub invariant-loop-byte : goal.invariant-loop-byte
invariant-loop-byte l =
    (l.opened + length l.rest ≤ length l.text) × (l.closed + length l.rest ≤ length l.text)
    × (behind_mark l.is_nested l.mark l.opened l.closed l.rest ≡ behind_mark l.is_nested l.mark 0 0 l.text)

abbrev pub decreases-loop-byte : goal.decreases-loop-byte
decreases-loop-byte l = length l.rest
