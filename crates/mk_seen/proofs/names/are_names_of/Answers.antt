use Rattle.mk_seen.proofs.NameLemmas.{too_few}
use Rattle.mk_seen.proofs.names.are_names_of.Goals as goal

pub returns-in-None : goal.returns-in-None
returns-in-None c =
    too_few c.args.graph.now c.args.nodes.now c.loop-node.node-index c.loop-node.left c.args.names c.loop-node-test.true (c.in-None.ensures.steps).0
    c.loop-node.invariant
