-- What is left lies in front of the rest, and takes as many bytes as are still to be passed over.
use Rattle.std.proofs.Common.{◌≡◌, ◌+◌, length}
use Rattle.st_packed.specs.Packed.{texts_size}
use Rattle.st_packed.proofs.PackedLemmas.{LieInFront}
use Rattle.st_packed.proofs.packed.texts_len.Given as goal

abbrev pub invariant-loop-left : goal.invariant-loop-left
invariant-loop-left l =
    LieInFront l.left l.rest × (texts_size l.count l.bytes + length l.rest ≡ length l.bytes + texts_size l.left l.rest)

abbrev pub decreases-loop-left : goal.decreases-loop-left
decreases-loop-left l = l.left
