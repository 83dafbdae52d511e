use Rattle.std.proofs.Common.{◌≡◌, List, ℕ, drop, sym, ap, ◌∙◌, rules}
use Rattle.std.specs.Prelude.{slice_get}
use Rattle.byte_strings.proofs.TextLemmas.{one_passed, none_left, first_left, next_left}
use Rattle.byte_strings.proofs.byte_strings.ByteStrings.get.Goals as goal

pub returns-in_err-_passed : goal.returns-in_err-_passed
returns-in_err-_passed c =
    let none = none_left c.args.self.now c.loop.counter c.args.index c.loop-test.true (sym c.loop.invariant ∙ c.in_err-_passed.ensures.steps.0) in
    rw c.from_residual.ensures (sym none)

pub loop-preserved : goal.loop-preserved
loop-preserved c = one_passed c.args.self.now c.next.new.self c.loop.counter c.in_ok-_passed._passed.now (sym c.loop.invariant ∙ c.in_ok-_passed.ensures.steps)

pub returns : goal.returns
returns c =
    let at : c.loop.counter ≡ c.args.index = search rules in
    let left : c.loop.left ≡ drop c.args.index c.args.self.now = rw at at c.loop.invariant in
    next_left c.loop.left c.next-2.new.self c.next-2.result c.next-2.ensures.steps ∙ ap (λ (l : List (List ℕ)). slice_get l 0) left ∙ first_left c.args.self.now c.args.index
