use Rattle.std.proofs.lemmas.List.{drop_all}
use Rattle.mk_plan.proofs.KeptLemmas.{next_raw, gives_more, each_if_over}
use Rattle.mk_plan.proofs.simple.gives_simply.Goals as goal

pub returns-then-not-takes_first : goal.returns-then-not-takes_first
returns-then-not-takes_first c = tt

pub loop-raw-preserved : goal.loop-raw-preserved
loop-raw-preserved c = λ meanings.
    gives_more meanings c.args.recipe.now c.args.commands c.loop-raw.raw-index c.raw-item.result c.loop-raw.left c.takes_first.new.commands
    (next_raw c.args.recipe.now c.loop-raw.raw-index c.raw-item.result c.loop-raw-test.true c.raw-item.is) (c.if-not-takes_first.ensures meanings)
    (c.loop-raw.invariant meanings)

pub returns : goal.returns
returns c =
    each_if_over c.args.recipe.now c.args.commands c.loop-raw.raw-index c.loop-raw.left c.is_over.result
    (drop_all c.loop-raw.raw-index c.args.recipe.now c.loop-raw-test.false) c.is_over.ensures c.loop-raw.invariant
