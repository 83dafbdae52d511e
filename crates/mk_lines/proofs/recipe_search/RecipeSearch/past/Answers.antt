use Rattle.std.proofs.Common.{◌++◌, sym, ◌∙◌}
use Rattle.mk_lines.proofs.SearchLemmas.{settled_stays}
use Rattle.mk_lines.proofs.recipe_search.RecipeSearch.past.Goals as goal

pub returns-then-is_settled : goal.returns-then-is_settled
returns-then-is_settled c = λ more.
    let search = c.loop-byte.search in
    let settled = sym c.is_settled.ensures ∙ c.if-is_settled.true in
    settled_stays search more settled ∙ sym (settled_stays search (c.loop-byte.rest.now ++ more) settled) ∙ c.loop-byte.invariant more
