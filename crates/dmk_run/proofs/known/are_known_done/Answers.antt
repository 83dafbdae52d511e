use Rattle.std.proofs.Common.{refl, arith}
use Rattle.std.proofs.lemmas.Option.{slice_get_within}
use Rattle.dmk_run.proofs.known.are_known_done.Goals as goal

-- past the end there is no node
pub returns : goal.returns
returns c =
    (λ yes node it at some. c.loop-node.invariant node (let within = slice_get_within c.args.graph.now.nodes.items node it at in omega (arith, within)) it at some, λ are. refl)
