use Rattle.std.proofs.Common.{sym, subst, [], Ok}
use Rattle.mk_rule_lines.proofs.ResultLemmas.{if_ok, if_err}
use Rattle.dmk_reading.specs.Definitions.{first_defined}
use Rattle.dmk_reading.specs.Faults.{IsOwnFault, IsFaultAmong}
use Rattle.dmk_reading.specs.Makefile.{AllItems}
use Rattle.dmk_reading.specs.Planned.{AreOwnItems}
use Rattle.dmk_reading.proofs.MakefileLemmas.{items_among, some_named, text_fault_among}
use Rattle.dmk_reading.proofs.makefile.own_items.Goals as goal

pub returns-then-is_empty-clause-items : goal.returns-then-is_empty-clause-items
returns-then-is_empty-clause-items g c =
    if_ok c.usual_items.result _ _
    (λ items gives world looks text now.
    subst (λ names. AreOwnItems world looks names (first_defined c.args.profile c.args.definitions.now c.args.environment.now) items.items) (sym (c.is_empty.ensures.0 c.if-is_empty.true))
    (subst (λ given. AreOwnItems world looks [] given items.items) c.in_ok-macros.ensures (gives world looks text now)))
    c.usual_items.ensures.items

pub returns-then-is_empty-clause-fault : goal.returns-then-is_empty-clause-fault
returns-then-is_empty-clause-fault g c =
    if_err c.usual_items.result _ _
    (λ f is world looks text now.
    subst (λ names. IsOwnFault world looks (g.T.Tree.refuses c.usual_items.new.tree) names (first_defined c.args.profile c.args.definitions.now c.args.environment.now) f) (sym (c.is_empty.ensures.0 c.if-is_empty.true))
    (subst (λ given. IsOwnFault world looks (g.T.Tree.refuses c.usual_items.new.tree) [] given f) c.in_ok-macros.ensures (is world looks text now)))
    c.usual_items.ensures.fault

pub returns-clause-items : goal.returns-clause-items
returns-clause-items g c =
    if_ok c.all_items.result _ _
    (λ items gives world looks text now.
    items_among world looks (first_defined c.args.profile c.args.definitions.now c.args.environment.now) c.args.named.now items.items (some_named c.args.named.now c.is_empty.result (c.is_empty.ensures).1 c.if-is_empty.false)
    (subst (λ given. AllItems world given c.args.named.now (Ok items.items)) c.in_ok-macros.ensures (gives world text)))
    c.all_items.ensures.items

pub returns-clause-fault : goal.returns-clause-fault
returns-clause-fault g c =
    if_err c.all_items.result _ _
    (λ f is world looks text now.
    text_fault_among world looks (first_defined c.args.profile c.args.definitions.now c.args.environment.now) (g.T.Tree.refuses c.args.tree.now) c.args.named.now f (some_named c.args.named.now c.is_empty.result (c.is_empty.ensures).1 c.if-is_empty.false)
    (subst (λ given. IsFaultAmong world given c.args.named.now f) c.in_ok-macros.ensures (is world text)))
    c.all_items.ensures.fault
