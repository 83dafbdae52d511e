use Rattle.std.proofs.Common.{◌∙◌, ap}
use Rattle.std.specs.Prelude.{option_to_list}
use Rattle.mk_makefile.specs.Doubles.{first_double}
use Rattle.mk_nodes.specs.Prerequisites.{any_or}
use Rattle.mk_sources.proofs.rules.Rules.named.Goals as goal

pub returns-clause-recipe : goal.returns-clause-recipe
returns-clause-recipe c =
    let rules = c.args.self.now in
    let name = c.args.name.now in
    c.own_or_first.ensures name (c.named-recipe.ensures.lines ∙ rules.named name)
    ∙ ap (λ o. any_or (option_to_list o) (first_double rules.lines.now name)) c.named-recipe.ensures.recipe
    ∙ ap (λ ns. any_or ns (first_double rules.lines.now name)) (rules.recipes name)
