use Rattle.std.proofs.Common.{◌∷◌, ◌++◌, []}
use Rattle.std.proofs.lemmas.Result.{err_from_is_err_and}
use Rattle.st_records.specs.Reading.{items_at}
use Rattle.st_packed.proofs.Items.{goes_on, ends, is_done}
use Rattle.st_records.proofs.Clean.{more_clean}
use Rattle.st_packed.proofs.decoder.behind_items.Goals as goal

pub returns-in_err-item-clause-fault : goal.returns-in_err-item-clause-fault
returns-in_err-item-clause-fault c =
    let p = err_from_is_err_and c.from_residual.result c.from_residual.ensures.1 in
    rw (p.1, p.2) (ends c.in_err-item.field-0.0 c.loop.invariant.0 c.args.count c.loop.counter c.loop.rest.now (items_at c.args.count c.args.bytes.now) c.loop-test.true c.in_err-item.ensures.gives c.loop.invariant.1)

pub loop-preserved : goal.loop-preserved
loop-preserved c = (
  c.loop.invariant.0 ++ c.in_ok-item.item.now ∷ [],
  goes_on c.loop.invariant.0 c.args.count c.loop.counter c.loop.rest.now c.in_ok-item.item.now c.in_ok-item.after.now (items_at c.args.count c.args.bytes.now) c.loop-test.true c.in_ok-item.ensures.gives c.loop.invariant.1,
  λ found.
      let one = c.still_clean-found.ensures found in
      let before = c.loop.invariant.2 one.0 in
      (before.0, more_clean c.args.form c.loop.invariant.0 c.in_ok-item.item.now before.1 one.1),
)

pub returns-clause-items : goal.returns-clause-items
returns-clause-items c =
    (c.loop.invariant.0, is_done c.loop.invariant.0 c.args.count c.loop.counter c.loop.rest.now (items_at c.args.count c.args.bytes.now) c.loop-test.false c.loop.invariant.1, c.loop.invariant.2)
