use Rattle.std.proofs.Common.{◌≡◌, ◌++◌, drop, map, slice_get}
use Rattle.mk_graph.specs.Edges.{row}
use Rattle.mk_names.specs.Names.{name_at}
use Rattle.mk_nodes.specs.Node.{implied_in}
use Rattle.mk_plan.specs.Words.{implied_names}
use Rattle.mk_plan.proofs.words.implied_words.Given as goal

abbrev pub invariant-loop-prerequisite : goal.invariant-loop-prerequisite
invariant-loop-prerequisite l =
    map (λ word. word.now) l.words.items
    ++ map (name_at l.graph.names) (drop l.prerequisite-index (implied_in (slice_get l.graph.nodes.items l.node) (row l.graph.hard l.node)))
    ≡ implied_names l.graph l.node
