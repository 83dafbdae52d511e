use Rattle.std.proofs.lemmas.List.{drop_all}
use Rattle.mk_plan.proofs.RecipeLemmas.{expanded_all}
use Rattle.mk_plan.proofs.recipe.expanded_lines.Goals as goal

pub returns-clause-lines : goal.returns-clause-lines
returns-clause-lines c =
    expanded_all _ c.args.recipe.now c.loop-raw.raw-index c.loop-raw.lines.items (drop_all c.loop-raw.raw-index c.args.recipe.now c.loop-raw-test.false) c.loop-raw.invariant.lines
