use Rattle.std.proofs.Common.{inl, inr, sym, subst, ◌∙◌, refl}
use Rattle.jb_closing.specs.Last.{ArePlaces}
use Rattle.jb_closing.proofs.ClosingLemmas.{lacks_some, lacks_none}
use Rattle.jb_closing.proofs.closing.refused_at.Goals as goal

pub returns-in-Some-clause-ok : goal.returns-in-Some-clause-ok
returns-in-Some-clause-ok c = inl (rw c.in-Some.is at c.in_ok-ticket.ensures)

pub returns-then-is_some-clause-ok : goal.returns-then-is_some-clause-ok
returns-then-is_some-clause-ok c =
    let are = subst (λ ps. ArePlaces c.args.told.now c.args.names.now ps) (sym c.deref.ensures.value) c.in_ok-places.ensures in
    inr (
      rw c.in_default.is at c.in_ok-ticket.ensures,
      lacks_some c.args.told.now c.args.names.now c.args.ends.now c.first_lacking.result
          (c.first_lacking.ensures c.args.names.now are) (sym c.is_some.ensures ∙ c.if-is_some.true),
      refl,
    )

pub returns-clause-ok : goal.returns-clause-ok
returns-clause-ok c =
    let are = subst (λ ps. ArePlaces c.args.told.now c.args.names.now ps) (sym c.deref.ensures.value) c.in_ok-places.ensures in (
      rw c.in_default.is at c.in_ok-ticket.ensures,
      lacks_none c.args.told.now c.args.names.now c.args.ends.now c.first_lacking.result
          (c.first_lacking.ensures c.args.names.now are) (sym c.is_some.ensures ∙ c.if-is_some.false),
    )
