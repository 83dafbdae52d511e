use Rattle.std.proofs.Common.{◌||◌, ◌&&◌, ◌∙◌, length, nat_lt, refl, ap}
use Rattle.std.proofs.lemmas.List.{take_all}
use Rattle.mk_graph.specs.Edges.{has}
use Rattle.mk_plan.specs.Nodes.{is_marked}
use Rattle.dmk_reading.proofs.LostLemmas.{more_marked, none_more}
use Rattle.dmk_reading.proofs.lost.mark_all.Goals as goal

pub loop-node-init : goal.loop-node-init
loop-node-init c = record { count = refl; marks = λ n. none_more (is_marked c.args.lost.now.items n) }

pub loop-node-preserved : goal.loop-node-preserved
loop-node-preserved c = record {
  count = c.mark.ensures.count ∙ c.loop-node.invariant.count;
  marks = λ n.
      c.mark.ensures.marks n
      ∙ more_marked c.args.nodes.now c.args.lost.now.items c.loop-node.lost.items c.loop-node.node-index n c.loop-node-test.true c.loop-node.invariant.count
      (c.loop-node.invariant.marks n);
}

pub returns-clause-marks : goal.returns-clause-marks
returns-clause-marks c = λ n.
    c.loop-node.invariant.marks n
    ∙ ap (λ ns. is_marked c.args.lost.now.items n || (has ns n && nat_lt n (length c.args.lost.now.items)))
    (take_all c.loop-node.node-index c.args.nodes.now c.loop-node-test.false)
