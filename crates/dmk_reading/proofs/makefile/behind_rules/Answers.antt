use Rattle.std.proofs.Common.{◌≡◌, subst, Ok, Err}
use Rattle.mk_eval.specs.Makefile.{GivesItems, TextItems, depth}
use Rattle.mk_macros.specs.Ranks.{defined_by}
use Rattle.mk_reader.specs.BuiltIn.{built_in_name}
use Rattle.dmk_reading.specs.BuiltIn.{TellsOwn, texts, standing, rules_text}
use Rattle.dmk_reading.specs.Definitions.{first_defined}
use Rattle.dmk_reading.proofs.MakefileLemmas.{rules_given, rules_refused}
use Rattle.dmk_reading.proofs.makefile.behind_rules.Goals as goal

pub returns-in-Ok-clause-items : goal.returns-in-Ok-clause-items
returns-in-Ok-clause-items g c = λ world text.
    let given = first_defined c.args.profile c.args.definitions.now c.args.environment.now in
    let found = c.in_ok-rules.ensures in
    let tells : TellsOwn given c.args.own.items found.0 =
    subst (λ d. TellsOwn d c.args.own.items found.0) c.in_ok-above.ensures
    (subst (λ own. TellsOwn (defined_by c.in_ok-above.above) own found.0) c.as_slice.ensures.value found.1) in
    let left : texts c.deref.result.now ≡ standing found.0 = rw c.deref.ensures.value found.2 in (
      c.in-Ok.items.items,
      rules_given world given c.args.own.items (texts c.deref.result.now) found.0 tells left (Ok c.in-Ok.items.items)
          (subst (λ d. TextItems world depth d built_in_name (rules_text (texts c.deref.result.now)) (Ok c.in-Ok.items.items))
          c.in_ok-macros.ensures (c.in-Ok.ensures.items world text)),
      c.in_ok-append-in-Ok.ensures.items,
    )

pub returns-clause-fault : goal.returns-clause-fault
returns-clause-fault g c = λ world text.
    let given = first_defined c.args.profile c.args.definitions.now c.args.environment.now in
    let found = c.in_ok-rules.ensures in
    let tells : TellsOwn given c.args.own.items found.0 =
    subst (λ d. TellsOwn d c.args.own.items found.0) c.in_ok-above.ensures
    (subst (λ own. TellsOwn (defined_by c.in_ok-above.above) own found.0) c.as_slice.ensures.value found.1) in
    let left : texts c.deref.result.now ≡ standing found.0 = rw c.deref.ensures.value found.2 in
    rules_refused world given c.args.own.items (texts c.deref.result.now) found.0 tells left c.in-Err.fault
    (subst (λ d. GivesItems (Err c.in-Err.fault) (TextItems world depth d built_in_name (rules_text (texts c.deref.result.now))))
    c.in_ok-macros.ensures (c.in-Err.ensures.items world text))
