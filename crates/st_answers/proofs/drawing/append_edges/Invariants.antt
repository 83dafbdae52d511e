use Rattle.std.proofs.Common.{◌≡◌, ◌++◌}
use Rattle.std.specs.Prelude.{map as list_map}
use Rattle.mk_names.specs.Names.{all_added}
use Rattle.st_answers.specs.Graph.{named_edge, edges_to, new_names}
use Rattle.st_answers.proofs.drawing.append_edges.Given as goal

abbrev pub invariant-loop-prerequisite : goal.invariant-loop-prerequisite
invariant-loop-prerequisite l = record {
  mentioned : all_added l.mentioned l.prerequisite-iterator ≡ all_added l.fn.mentioned l.fn.prerequisites;
  edges : list_map named_edge l.edges.items ++ edges_to l.line.drawn.now l.line.user.now l.line.hidden (new_names l.mentioned l.prerequisite-iterator)
      ≡ list_map named_edge l.fn.edges.items ++ edges_to l.line.drawn.now l.line.user.now l.line.hidden (new_names l.fn.mentioned l.fn.prerequisites);
}
