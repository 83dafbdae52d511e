use Rattle.std.proofs.Common.{◌∙◌, ap}
use Rattle.std.specs.Prelude.{option_to_list}
use Rattle.mk_nodes.specs.Prerequisites.{first_or}
use Rattle.mk_sources.proofs.seen.ruled_by.Goals as goal

pub returns-clause-ruled : goal.returns-clause-ruled
returns-clause-ruled g c = λ name looks now numbers stamp. record {
  recipe = c.in_ok-recipe.ensures ∙ c.own_or.ensures ∙ ap (first_or (option_to_list c.args.own)) c.rule_or.ensures;
  given = c.in_ok-given.ensures.given name looks now numbers stamp;
}
