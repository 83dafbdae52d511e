use Rattle.std.proofs.Common.{◌∙◌}
use Rattle.mk_recipe.proofs.NameLemmas.{known_start}
use Rattle.mk_recipe.proofs.report.known_names.Goals as goal

pub returns : goal.returns
returns c = λ name.
    c.in_ok-add_all.ensures name
    ∙ known_start c.args.target.now name c.args.known.now c.add.new.self c.new-names.result c.new-names.ensures c.in_ok-add.ensures
