use Rattle.std.proofs.Common.{◌<◌, nat_eq, slice_index, arith, ◌∙◌, eq-eqb, ne_eqb}
use Rattle.bd_places.proofs.StartLemmas.{step_goes, step_stays}
use Rattle.bd_places.proofs.places.ready_first.Goals as goal
use Rattle.bd_places.proofs.places.ready_first.Goals.{then-lacks-eq0, else-lacks-eq0}

pub loop-node-preserved : goal.loop-node-preserved
loop-node-preserved c =
    let below : c.loop-node.node < c.args.links.now.nodes = omega (arith, c.loop-node-test.true, c.requires.nodes) in
    elim c.if-lacks-eq0.branch [
      | then-lacks-eq0 w ↦ step_goes (λ n. nat_eq (slice_index c.args.missing.now n) 0) c.args.links.now.nodes c.loop-node.node below c.args.links.now c.loop-node.links c.if-lacks-eq0.links
          c.loop-node.invariant w.new.result w.new.ensures (eq-eqb (slice_index c.args.missing.now c.loop-node.node) 0 w.if-lacks-eq0.true) (w.links-is ∙ w.move_to.ensures)
      | else-lacks-eq0 w ↦ step_stays (λ n. nat_eq (slice_index c.args.missing.now n) 0) c.args.links.now.nodes c.loop-node.node below c.args.links.now c.loop-node.links c.if-lacks-eq0.links
          c.loop-node.invariant (ne_eqb (slice_index c.args.missing.now c.loop-node.node) 0 w.if-lacks-eq0.false) w.links-is
    ]
