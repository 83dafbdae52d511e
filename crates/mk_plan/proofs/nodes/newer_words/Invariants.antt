use Rattle.std.proofs.Common.{◌≡◌, ◌++◌, map, filter, drop}
use Rattle.mk_graph.specs.Edges.{row}
use Rattle.mk_names.specs.Names.{name_at}
use Rattle.mk_seen.specs.Marks.{with_marks}
use Rattle.mk_plan.specs.Tests.{is_newer_word, newer_words}
use Rattle.mk_plan.proofs.nodes.newer_words.Given as goal

abbrev pub invariant-loop-prerequisite : goal.invariant-loop-prerequisite
invariant-loop-prerequisite l =
    map (λ word. word.now) l.words.items
    ++ map (λ p. name_at l.graph.names p.0)
    (filter (is_newer_word l.graph l.marks l.node) (with_marks (drop l.prerequisite-index (row l.graph.hard l.node)) l.kept))
    ≡ newer_words l.graph l.marks l.node
