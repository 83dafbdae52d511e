use Rattle.std.proofs.Common.{◌≡◌, ◌++◌, drop, length, map}
use Rattle.mk_graph.specs.Edges.{row}
use Rattle.mk_names.specs.Names.{name_at}
use Rattle.mk_nodes.specs.Graph.{required_in}
use Rattle.mk_plan.specs.Words.{order_only_words}
use Rattle.mk_plan.proofs.words.words_behind_the_bar.Given as goal

abbrev pub invariant-loop-prerequisite : goal.invariant-loop-prerequisite
invariant-loop-prerequisite l =
    map (λ word. word.now) l.words.items
    ++ map (name_at l.graph.names) (drop l.prerequisite-index (drop (length (row l.graph.hard l.node)) (row (required_in l.graph) l.node)))
    ≡ order_only_words l.graph l.node
