use Rattle.dmk_parts.proofs.BehindLemmas.{adds_none, adds_one}
use Rattle.dmk_parts.proofs.made.add_built.Goals as goal

pub loop-one-init : goal.loop-one-init
loop-one-init g c = record {
  without = adds_none c.args.made.now c.args.without.now;
  filed = adds_none c.args.made.now c.args.filed.now;
}

pub loop-one-preserved : goal.loop-one-preserved
loop-one-preserved g c = record {
  without = adds_one c.args.made.now c.loop-one.one-index c.one-item.result c.args.without.now c.loop-one.without c.add_one_built.new.without c.loop-one-test.true c.one-item.is
      c.loop-one.invariant.without c.add_one_built.ensures.without;
  filed = adds_one c.args.made.now c.loop-one.one-index c.one-item.result c.args.filed.now c.loop-one.filed c.add_one_built.new.filed c.loop-one-test.true c.one-item.is
      c.loop-one.invariant.filed c.add_one_built.ensures.filed;
}

pub returns-in_err-add_one_built : goal.returns-in_err-add_one_built
returns-in_err-add_one_built g c = record {
  without = adds_one c.args.made.now c.loop-one.one-index c.one-item.result c.args.without.now c.loop-one.without c.add_one_built.new.without c.loop-one-test.true c.one-item.is
      c.loop-one.invariant.without c.add_one_built.ensures.without;
  filed = adds_one c.args.made.now c.loop-one.one-index c.one-item.result c.args.filed.now c.loop-one.filed c.add_one_built.new.filed c.loop-one-test.true c.one-item.is
      c.loop-one.invariant.filed c.add_one_built.ensures.filed;
}
