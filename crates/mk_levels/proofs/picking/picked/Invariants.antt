use Rattle.std.proofs.Common.{◌≡◌, length}
use Rattle.mk_levels.proofs.PickedLemmas.{PickedSoFar}
use Rattle.mk_levels.proofs.picking.picked.Given as goal

abbrev pub invariant-loop-node : goal.invariant-loop-node
invariant-loop-node l = record {
  count : length l.marks.items ≡ length l.graph.nodes.items;
  so_far : PickedSoFar l.wanted.own.now l.wanted.levels.now l.wanted.listed l.graph l.marks.items l.node-index l.records.items;
}
