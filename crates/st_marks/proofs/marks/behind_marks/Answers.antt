use Rattle.std.proofs.Common.{◌∷◌, ◌++◌, []}
use Rattle.st_marks.specs.Reading.{mark_at, many_at}
use Rattle.st_marks.proofs.ManyLemmas.{goes_on, ends, is_done}
use Rattle.st_marks.proofs.marks.behind_marks.Goals as goal

pub returns-in_err-_mark-clause-none : goal.returns-in_err-_mark-clause-none
returns-in_err-_mark-clause-none c =
    rw c.from_residual.ensures (ends mark_at c.loop.invariant.0 c.args.count c.loop.counter c.loop.rest.now (many_at mark_at c.args.count c.args.bytes.now) c.loop-test.true c.in_err-_mark.ensures c.loop.invariant.1)

pub loop-preserved : goal.loop-preserved
loop-preserved c = (
  c.loop.invariant.0 ++ c.in_ok-_mark._mark ∷ [],
  goes_on mark_at c.loop.invariant.0 c.args.count c.loop.counter c.loop.rest.now c.in_ok-_mark._mark c.in_ok-_mark.after.now (many_at mark_at c.args.count c.args.bytes.now) c.loop-test.true c.in_ok-_mark.ensures c.loop.invariant.1,
)

pub returns-clause-found : goal.returns-clause-found
returns-clause-found c =
    (c.loop.invariant.0, is_done mark_at c.loop.invariant.0 c.args.count c.loop.counter c.loop.rest.now (many_at mark_at c.args.count c.args.bytes.now) c.loop-test.false c.loop.invariant.1)
