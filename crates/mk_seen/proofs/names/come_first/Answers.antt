use Rattle.mk_seen.proofs.NameLemmas.{too_few_first}
use Rattle.mk_seen.proofs.names.come_first.Goals as goal

pub returns-in-None : goal.returns-in-None
returns-in-None c =
    too_few_first c.args.graph.now c.args.nodes.now c.loop-node.node-index c.loop-node.left c.args.names c.loop-node-test.true (c.in-None.ensures.steps).0
    c.loop-node.invariant
