use Rattle.std.proofs.Common.{inl, sym, ◌∙◌}
use Rattle.dmk_reading.proofs.MakefileLemmas.{none_is, some_is}
use Rattle.dmk_reading.proofs.makefile.is_absent.Goals as goal

pub returns-in-Ok-clause-absent : goal.returns-in-Ok-clause-absent
returns-in-Ok-clause-absent g c = λ none looks may.
    sym (c.in-Ok.ensures.stamp looks may) ∙ none_is c.in-Ok.stamp c.is_none.result c.is_none.ensures none

pub returns-in-Ok-clause-there : goal.returns-in-Ok-clause-there
returns-in-Ok-clause-there g c = λ some looks may.
    inl (some_is c.in-Ok.stamp _ c.is_none.result (c.in-Ok.ensures.stamp looks may) c.is_none.ensures some)
