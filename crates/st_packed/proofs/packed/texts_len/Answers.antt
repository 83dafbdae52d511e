use Rattle.std.proofs.Common.{arith}
use Rattle.st_packed.proofs.PackedLemmas.{first_whole, first_passed}
use Rattle.st_packed.proofs.packed.texts_len.Goals as goal

pub behind_first-rest-requires-clause-string : goal.behind_first-rest-requires-clause-string
behind_first-rest-requires-clause-string c =
    (first_whole c.loop-left.left c.loop-left.rest.now (omega (arith, c.loop-left-test.true)) c.loop-left.invariant.0).1

pub loop-left-preserved : goal.loop-left-preserved
loop-left-preserved c =
    let rest = c.loop-left.rest.now in
    let passed = first_passed c.loop-left.left rest (omega (arith, c.loop-left-test.true)) c.loop-left.invariant.0 in
    rw c.behind_first-rest.ensures (passed.0, omega (arith, passed.1, c.loop-left.invariant.1))
