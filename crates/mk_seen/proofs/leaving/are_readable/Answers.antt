use Rattle.mk_seen.specs.Nodes.{hidden_of}
use Rattle.mk_seen.proofs.TextLemmas.{readable}
use Rattle.mk_seen.proofs.leaving.are_readable.Goals as goal

pub returns-then-texts : goal.returns-then-texts
returns-then-texts c = readable c.args.keeping c.args.graph.now (c.requires.texts c.if-texts.true) (hidden_of c.args.graph.now c.args.node)
