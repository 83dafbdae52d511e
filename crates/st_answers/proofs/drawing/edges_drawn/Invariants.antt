use Rattle.std.proofs.Common.{◌≡◌, ◌++◌, drop}
use Rattle.std.specs.Prelude.{map as list_map}
use Rattle.std.specs.List.{flat_map}
use Rattle.st_answers.specs.Graph.{named_edge, edges_from, edges_among}
use Rattle.st_answers.proofs.drawing.edges_drawn.Given as goal

abbrev pub invariant-loop-number : goal.invariant-loop-number
invariant-loop-number l =
    list_map named_edge l.edges.items ++ flat_map (edges_from l.state l.hidden l.names) (drop l.number l.names) ≡ edges_among l.state l.hidden l.names
