use Rattle.std.proofs.Common.{◌≡◌, ◌+◌, ◌≤◌, length}
use Rattle.mk_statements.specs.Cut.{size, onto, cut_from, cut}
use Rattle.mk_statements.proofs.cut.cut.Given as goal

abbrev pub invariant-loop-byte : goal.invariant-loop-byte
invariant-loop-byte l =
    (size l.place + length l.rest ≤ length l.text) × (onto l.front.items (cut_from l.has_semicolons l.place l.rest) ≡ cut l.has_semicolons l.text)

abbrev pub decreases-loop-byte : goal.decreases-loop-byte
decreases-loop-byte l = length l.rest
