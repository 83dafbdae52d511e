use Rattle.std.proofs.Common.{◌∙◌, sym, arith}
use Rattle.name_keys.proofs.SameLemmas.{differ, same_on, last_decides}
use Rattle.name_keys.proofs.same.same_by.Goals as goal

pub returns-then-not-same_at : goal.returns-then-not-same_at
returns-then-not-same_at g c =
    sym (differ c.args.a.now c.args.b.now g.row.N c.loop-place.place (sym c.same_at.ensures ∙ c.if-not-same_at.true))

pub loop-place-preserved : goal.loop-place-preserved
loop-place-preserved g c = (
  omega (arith, c.loop-place-test.true),
  same_on c.args.a.now c.args.b.now g.row.N c.loop-place.place c.loop-place.invariant.1 (sym c.same_at.ensures ∙ c.if-not-same_at.false),
)

pub returns : goal.returns
returns g c =
    c.same_at-2.ensures
    ∙ last_decides c.args.a.now c.args.b.now g.row.N _ c.loop-place.place c.requires.lengths (omega arith) (omega (arith, c.loop-place-test.false)) c.loop-place.invariant.1
