use Rattle.std.proofs.Common.{◌≡◌, ◌∙◌, [], drop, sym, ap, arith}
use Rattle.jb_marks.specs.Tests.{is_same}
use Rattle.jb_marks.proofs.SameLemmas.{nothing_left, none_of}
use Rattle.jb_marks.proofs.same.are_still.Goals as goal

pub returns-in_default : goal.returns-in_default
returns-in_default c =
    let none : c.loop-was.left.now ≡ [] = none_of c.loop-was.left.now (omega arith) in
    sym (ap (is_same (drop c.loop-was.was-index c.args.before.now)) none ∙ nothing_left c.args.before.now c.loop-was.was-index c.loop-was-test.true)
    ∙ c.loop-was.invariant
