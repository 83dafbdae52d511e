use Rattle.std.proofs.Common.{◌+◌, ◌≤◌, length, slice_index, sum, ap, ◌∙◌, subst, sym, arith, length-set}
use Rattle.std.proofs.lemmas.Grind.{common_steps}
use Rattle.mk_graph.proofs.UserLemmas.{counted_in, counted_past, sum_in}
use Rattle.mk_graph.proofs.users.counted.Goals as goal
use Rattle.mk_graph.proofs.users.counted.Goals.{then-node-nodes, else-node-nodes}

pub loop-number-preserved : goal.loop-number-preserved
loop-number-preserved c =
    let ns = c.args.numbers.now in
    let i = c.loop-number.number-index in
    let counts = c.loop-number.counts.items in
    let so_far = c.loop-number.invariant in
    record {
      nodes = elim c.if-node-nodes.branch [
        | then-node-nodes w ↦ ap (λ v. length v.items) w.counts-is ∙ length-set _ _ _ ∙ so_far.nodes
        | else-node-nodes w ↦ ap (λ v. length v.items) w.counts-is ∙ so_far.nodes
      ];
      counted = λ n below. elim c.if-node-nodes.branch [
        | then-node-nodes w ↦
            ap (λ v. slice_index v.items n) w.counts-is
            ∙ counted_in counts ns c.args.nodes i c.loop-number-test.true so_far.nodes so_far.counted _ w.if-node-nodes.true (grind (arith, common_steps, w.index_mut.ensures.value)) n below
        | else-node-nodes w ↦
            ap (λ v. slice_index v.items n) w.counts-is ∙ counted_past counts ns c.args.nodes i c.loop-number-test.true so_far.nodes so_far.counted w.if-node-nodes.false n below
      ];
      within = elim c.if-node-nodes.branch [
        | then-node-nodes w ↦
            subst (λ k. k ≤ i + 1) (sym (ap (λ v. sum v.items) w.counts-is))
            (sum_in counts ns c.args.nodes i c.loop-number-test.true so_far.nodes so_far.counted _ w.if-node-nodes.true (grind (arith, common_steps, w.index_mut.ensures.value)) so_far.within)
        | else-node-nodes w ↦ let s = ap (λ v. sum v.items) w.counts-is in let b = so_far.within in omega arith
      ];
    }
