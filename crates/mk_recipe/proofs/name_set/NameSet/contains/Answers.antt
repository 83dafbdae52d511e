use Rattle.std.proofs.Common.{◌∙◌, ap}
use Rattle.std.specs.Str.{bytes_eq}
use Rattle.mk_recipe.specs.Report.{has}
use Rattle.mk_recipe.proofs.NameLemmas.{list_any-map}
use Rattle.mk_recipe.proofs.name_set.NameSet.contains.Goals as goal

pub returns : goal.returns
returns c =
    c.contains.ensures ∙ list_any-map (λ k. k.items) (bytes_eq c.args.name.now) c.self.inside.set.keys ∙ ap (λ l. has c.args.name.now l) c.self.view_is
