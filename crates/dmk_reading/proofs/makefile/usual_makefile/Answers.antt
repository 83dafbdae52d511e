use Rattle.std.proofs.Common.{option_map, inl, inr, ap, ◌∙◌}
use Rattle.dmk_reading.proofs.MakefileLemmas.{first_is, second_is}
use Rattle.dmk_reading.proofs.makefile.usual_makefile.Goals as goal

pub returns-in-Some-clause-makefile : goal.returns-in-Some-clause-makefile
returns-in-Some-clause-makefile g c = λ world looks text may.
    first_is world looks _ c.in-Some.makefile c.in-Some.is c.in_ok-makefile.ensures.name (c.in_ok-makefile.ensures.read world text)

pub returns-then-not-branch-clause-fault : goal.returns-then-not-branch-clause-fault
returns-then-not-branch-clause-fault g c = λ world looks given text may. (
  c.in_ok-makefile.ensures.read world text ∙ ap (option_map (λ m. m.text.value.items)) c.in_default.is,
  inl (c.in_ok-is_absent.ensures.there c.if-not-branch.true looks may),
)

pub returns-in-Some-2-clause-makefile : goal.returns-in-Some-2-clause-makefile
returns-in-Some-2-clause-makefile g c = λ world looks text may.
    let none = c.in_ok-makefile.ensures.read world (c.in_ok-makefile-2.ensures.files world text) ∙ ap (option_map (λ m. m.text.value.items)) c.in_default.is in
    second_is world looks _ c.in-Some-2.makefile c.in-Some-2.is none (c.in_ok-is_absent.ensures.absent c.if-not-branch.false looks may)
    c.in_ok-makefile-2.ensures.name (c.in_ok-makefile-2.ensures.read world text)

pub returns-in-None-clause-fault : goal.returns-in-None-clause-fault
returns-in-None-clause-fault g c = λ world looks given text may. (
  c.in_ok-makefile.ensures.read world (c.in_ok-makefile-2.ensures.files world text) ∙ ap (option_map (λ m. m.text.value.items)) c.in_default.is,
  inr (c.in_ok-is_absent.ensures.absent c.if-not-branch.false looks may, c.in_ok-makefile-2.ensures.read world text ∙ ap (option_map (λ m. m.text.value.items)) c.in-None.is),
)
