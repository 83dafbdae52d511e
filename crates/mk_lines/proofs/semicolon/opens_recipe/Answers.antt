use Rattle.std.proofs.Common.{false, true, ap, subst, sym, ◌∙◌}
use Rattle.mk_lines.specs.Search.{is_in_recipe, HasRead}
use Rattle.mk_lines.proofs.SearchLemmas.{opens_none, opens_by_reading}
use Rattle.mk_lines.proofs.semicolon.opens_recipe.Goals as goal

pub returns-then-has_semicolon : goal.returns-then-has_semicolon
returns-then-has_semicolon c =
    let read = subst (λ start. HasRead start c.args.text.now c.past.result) c.begin.ensures c.past.ensures in
    c.is_in_recipe.ensures ∙ opens_by_reading c.args.text.now c.past.result read

pub returns-else-has_semicolon : goal.returns-else-has_semicolon
returns-else-has_semicolon c = c.if-has_semicolon.false ∙ sym (opens_none c.args.text.now (sym c.has_semicolon.ensures ∙ c.if-has_semicolon.false))
