use Rattle.std.proofs.Common.{subst}
use Rattle.mk_rule_lines.proofs.ResultLemmas.{if_ok}
use Rattle.dmk_reading.specs.Definitions.{first_defined}
use Rattle.dmk_reading.specs.Keeping.{keeps}
use Rattle.dmk_reading.specs.Planned.{AreItems}
use Rattle.dmk_run.proofs.DriverLemmas.{untouched_or}
use Rattle.dmk_run.proofs.driver.run_makefile.Goals as goal

pub returns-in-Ok-clause-makes : goal.returns-in-Ok-clause-makes
returns-in-Ok-clause-makes g c =
    if_ok c.run_items.result.0 _ _
    (λ s made world looks text may. record {
      items = c.in-Ok.items.items;
      are_items = subst (λ defined. AreItems world looks c.args.makefiles.now (first_defined c.args.goals.profile defined c.args.means.now.environment.now) c.in-Ok.items.items) c.deref.ensures.value
          (c.in-Ok.ensures.items world looks (c.notes_of.ensures world text) (c.run_items.ensures.looks looks may));
      made = made looks may;
    })
    c.run_items.ensures.makes

pub returns-in-Ok-clause-untouched : goal.returns-in-Ok-clause-untouched
returns-in-Ok-clause-untouched g c =
    untouched_or (keeps c.args.means.now.environment.now c.in-Ok.items.items) c.args.disk c.run_items.result.1 _ c.run_items.ensures.untouched
    (λ is world looks text may. (
      c.in-Ok.items.items,
      subst (λ defined. AreItems world looks c.args.makefiles.now (first_defined c.args.goals.profile defined c.args.means.now.environment.now) c.in-Ok.items.items) c.deref.ensures.value
          (c.in-Ok.ensures.items world looks (c.notes_of.ensures world text) (c.run_items.ensures.looks looks may)),
      is,
    ))
