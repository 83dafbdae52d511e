use Rattle.std.proofs.Common.{◌<◌, ◌∙◌, length, ap, arith}
use Rattle.mk_functions.specs.Scope.{padded}
use Rattle.mk_functions.specs.Shown.{texts}
use Rattle.mk_functions.proofs.ListLemmas.{padded-more}
use Rattle.mk_functions.proofs.calls.padded.Goals as goal

pub loop-alloc-preserved : goal.loop-alloc-preserved
loop-alloc-preserved c =
    let less : length c.loop-alloc.values.items < c.args.count = omega (arith, c.len.ensures, c.loop-alloc-test.true, c.loop-alloc.values.ok.0) in
    ap (λ vs. padded c.args.count (texts vs)) c.in_ok-push.ensures.items
    ∙ padded-more c.args.count c.loop-alloc.values.items c.new.result less c.new.ensures.items ∙ c.loop-alloc.invariant
