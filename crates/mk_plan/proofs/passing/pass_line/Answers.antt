use Rattle.std.proofs.Common.{◌∙◌, ap, map}
use Rattle.mk_plan.proofs.PassingLemmas.{recipe_by}
use Rattle.mk_plan.proofs.passing.pass_line.Goals as goal

pub pass_recipe-requires-clause-recipe : goal.pass_recipe-requires-clause-recipe
pass_recipe-requires-clause-recipe c =
    recipe_by c.args.graph.now c.args.node c.args.line.now (map (λ l. l.now) c.deref.result.now) c.requires.line
    (ap (λ parts. map (λ l. l.now) parts) c.deref.ensures.value ∙ c.in_ok-recipe.ensures)
