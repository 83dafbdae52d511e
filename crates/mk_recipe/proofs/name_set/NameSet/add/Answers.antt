use Rattle.std.proofs.Common.{◌∙◌, map, ap}
use Rattle.std.specs.Str.{bytes_eq}
use Rattle.mk_recipe.specs.Report.{has}
use Rattle.mk_recipe.specs.Reading.{added}
use Rattle.mk_recipe.proofs.NameLemmas.{list_any-map, added-map}
use Rattle.mk_recipe.proofs.name_set.NameSet.add.Goals as goal

pub returns : goal.returns
returns c =
    let names = c.args.self.now in
    let keys = c.self.inside.set.keys in
    let key = c.in_ok-from_slice.field-0 in
    ap (map (λ k. k.items)) c.in_ok-insert.ensures.keys
    ∙ added-map (λ k. k.items) _ keys key names c.self.view_is (list_any-map (λ k. k.items) (bytes_eq key.items) keys ∙ ap (λ l. has key.items l) c.self.view_is)
    ∙ ap (added names) c.in_ok-from_slice.ensures.items
