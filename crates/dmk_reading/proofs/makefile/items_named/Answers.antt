use Rattle.std.proofs.Common.{option_map, sym, ap, ◌∙◌}
use Rattle.mk_macros.specs.Ranks.{defined_by}
use Rattle.dmk_reading.proofs.MakefileLemmas.{named_items, named_refused}
use Rattle.dmk_reading.proofs.makefile.items_named.Goals as goal

pub returns-in-Ok-clause-items : goal.returns-in-Ok-clause-items
returns-in-Ok-clause-items g c = λ world now.
    named_items world (defined_by c.args.macros.now) c.args.name.now _ _
    (sym (c.in_ok-text.ensures.content world (c.read_makefile.ensures.grows world now)) ∙ ap (option_map (λ v. v.value.items)) c.in-Some.is)
    (c.as_slice.ensures.value ∙ ap (λ v. v.items) c.deref.ensures) _ (c.in-Ok.ensures.items world now)

pub returns-clause-fault : goal.returns-clause-fault
returns-clause-fault g c = λ world now.
    named_refused world (defined_by c.args.macros.now) c.args.name.now _ _
    (sym (c.in_ok-text.ensures.content world (c.read_makefile.ensures.grows world now)) ∙ ap (option_map (λ v. v.value.items)) c.in-Some.is)
    (c.as_slice.ensures.value ∙ ap (λ v. v.items) c.deref.ensures) c.in-Err.fault (c.in-Err.ensures.items world now)
