use Rattle.std.proofs.Common.{◌≡◌, length, take}
use Rattle.byte_strings.specs.Pieces.{pieces, AreEnds}
use Rattle.mk_graph.specs.Counted.{joined}
use Rattle.mk_graph.proofs.edges.Edges.joined.Given as goal

abbrev pub invariant-loop-node : goal.invariant-loop-node
invariant-loop-node l = record {
  ends : AreEnds (length l.numbers.items) 0 l.ends.items;
  rows : pieces l.numbers.items 0 l.ends.items ≡ take l.node (joined l.first l.second);
}
