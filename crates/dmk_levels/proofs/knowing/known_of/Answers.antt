use Rattle.std.proofs.Common.{List, subst, arith}
use Rattle.std.proofs.lemmas.Grind.{common_steps}
use Rattle.mk_rule_lines.proofs.ResultLemmas.{if_ok}
use Rattle.bd_lists.specs.declared.recipe.Variable.{Variable}
use Rattle.dmk_reading.specs.Definitions.{first_defined}
use Rattle.dmk_reading.specs.Planned.{AreItems}
use Rattle.dmk_reading.proofs.LostLemmas.{nothing_in}
use Rattle.dmk_levels.specs.Known.{IsAsked, up_to_date}
use Rattle.dmk_levels.proofs.KnowingLemmas.{none_known}
use Rattle.dmk_levels.proofs.knowing.known_of.Goals as goal

pub returns-then-is_empty-clause-known : goal.returns-then-is_empty-clause-known
returns-then-is_empty-clause-known g c = λ world looks text may read.
    let asked = c.args.asked.now in
    let (graph, is, picked) = c.in_ok-offers.ensures.offers looks may in
    none_known (IsAsked world looks asked.options.now asked.environment.now) asked.levels.now c.args.own.now graph c.in_ok-offers.offers.items
    (nothing_in c.in_ok-offers.offers.items
    (let ok = c.in_ok-offers.offers.ok in let e = c.if-is_empty.true in let f = c.is_empty.ensures in grind (arith, common_steps, ok, e, f))) (c.args.items.items, read, is) picked

pub returns-clause-known : goal.returns-clause-known
returns-clause-known g c =
    let asked = c.args.asked.now in
    let options = asked.options.now in
    if_ok c.held_of.result _ _
    (λ held is world looks text may read.
    let before = c.held_of.ensures.looks looks may in
    let (graph, is_own, picked) = c.in_ok-offers.ensures.offers looks (c.items_of.ensures.looks looks before) in
    let (judged, is_judged, (offered, offered_is, known)) = is looks may in
    up_to_date graph judged c.in_ok-offers.offers.items held.items offered (c.args.items.items, read, is_own) picked (
      c.in_ok-items.items.items,
      subst (λ (defined : List Variable). AreItems world looks options.makefiles (first_defined options.profile defined asked.environment.now) c.in_ok-items.items.items)
          c.as_slice.ensures.value (c.in_ok-items.ensures.items world looks text before),
      is_judged,
    ) offered_is known)
    (rw c.deref.ensures.value at c.held_of.ensures.held)
