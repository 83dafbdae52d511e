use Rattle.std.proofs.Common.{◌≡◌, length}
use Rattle.std.specs.List.{AllByRecursion}
use Rattle.dmk_trust.specs.Taken.{IsOnDisk}
use Rattle.dmk_trust.proofs.TakingLemmas.{TakenSoFar}
use Rattle.dmk_trust.proofs.taking.taken.Given as goal

abbrev pub invariant-loop-node : goal.invariant-loop-node
invariant-loop-node g l = record {
  count : length l.marks.items ≡ length l.graph.nodes.items;
  so_far : TakenSoFar l.form l.graph l.marks.items l.node-index l.records.items;
  on_disk : AllByRecursion (IsOnDisk (g.P.Place.synced l.place) l.graph) l.records.items;
}
