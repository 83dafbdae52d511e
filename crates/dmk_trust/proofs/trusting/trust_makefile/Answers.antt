use Rattle.std.proofs.Common.{◌≡◌, true, List, sym, subst, ◌∙◌}
use Rattle.bd_lists.specs.declared.recipe.Variable.{Variable}
use Rattle.mk_rule_lines.proofs.ResultLemmas.{if_ok}
use Rattle.dmk_reading.specs.Definitions.{first_defined}
use Rattle.dmk_reading.specs.Keeping.{keeps}
use Rattle.dmk_reading.specs.Planned.{AreItems}
use Rattle.dmk_trust.proofs.trusting.trust_makefile.Goals as goal

pub returns-clause-left : goal.returns-clause-left
returns-clause-left g c =
    let options = c.args.options.now in
    let environment = c.args.environment.now in
    let items = c.in-Ok.items.items in
    let asked : keeps environment items ≡ true = sym (rw c.deref-2.ensures.value at c.keeps_state.ensures) ∙ c.if-not-keeps_state.false in
    if_ok c.trust_on.result.0 _ _
    (λ found left honest kept world looks text may. (
      items,
      subst (λ (defined : List Variable). AreItems world looks options.makefiles (first_defined options.profile defined environment) items) c.deref.ensures.value
          (c.in-Ok.ensures.items world looks text (c.trust_on.ensures.looks looks may)),
      asked,
      left honest looks may,
    ))
    c.trust_on.ensures.left
