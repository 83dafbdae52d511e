use Rattle.std.proofs.Common.{ap, ◌∙◌}
use Rattle.std.specs.Prelude.{option_to_list}
use Rattle.mk_sources.proofs.LeftLemmas.{none_named, default_named}
use Rattle.mk_sources.proofs.left_over.default_of.Goals as goal

pub returns-in-Some : goal.returns-in-Some
returns-in-Some c = c.default_at.ensures ∙ default_named c.args.lines.now c.recipe.result c.in-Some.number c.in-Some.is (ap option_to_list c.recipe.ensures ∙ c.requires)

pub returns-in-None : goal.returns-in-None
returns-in-None c = none_named c.args.lines.now c.recipe.result c.in-None.is (ap option_to_list c.recipe.ensures ∙ c.requires)
