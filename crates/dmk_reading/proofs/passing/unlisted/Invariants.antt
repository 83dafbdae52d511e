use Rattle.std.proofs.Common.{◌≡◌, false, List, length}
use Rattle.mk_plan.specs.Passage.{Passage}
use Rattle.dmk_reading.specs.Passing.{lists_any}
use Rattle.dmk_reading.proofs.PassingLemmas.{ListedSoFar}
use Rattle.dmk_reading.proofs.passing.unlisted.Given as goal

abbrev pub invariant-loop-number : goal.invariant-loop-number
invariant-loop-number l = record {
  count : length l.marks.items ≡ length l.graph.nodes.items;
  none_so_far : (listed : List Passage) × ListedSoFar l.keeping l.graph l.marks.items l.number-index listed × (lists_any listed ≡ false);
}
