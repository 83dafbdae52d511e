use Rattle.std.proofs.Common.{ap, ◌∙◌, subst}
use Rattle.std.specs.Prelude.{IfOk}
use Rattle.mk_graph.specs.Edges.{is_closed}
use Rattle.mk_graph.specs.Counted.{AreSets}
use Rattle.mk_graph.proofs.CountedLemmas.{closed_counting}
use Rattle.mk_graph.proofs.counting.counted_edges.Goals as goal

pub sets_of-requires : goal.sets_of-requires
sets_of-requires c =
    ap is_closed c.in_ok-rows.ensures ∙ closed_counting c.args.hard.now c.args.soft.now c.args.dropped c.requires.nodes c.requires.hard c.requires.soft

pub returns : goal.returns
returns c = subst (λ g. IfOk c.sets_of.result (AreSets g)) c.in_ok-rows.ensures c.sets_of.ensures
