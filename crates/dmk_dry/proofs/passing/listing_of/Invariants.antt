use Rattle.std.proofs.Common.{◌≡◌, List, length}
use Rattle.mk_plan.specs.Passage.{Passage}
use Rattle.dmk_dry.specs.AlwaysRun.{lines_run_always}
use Rattle.dmk_dry.specs.Listing.{listing_text}
use Rattle.dmk_reading.specs.Passing.{lists_any}
use Rattle.dmk_reading.proofs.PassingLemmas.{ListedSoFar}
use Rattle.dmk_dry.proofs.PassingLemmas.{NoFaultSoFar}
use Rattle.dmk_dry.proofs.passing.listing_of.Given as goal

abbrev pub invariant-loop-node : goal.invariant-loop-node
invariant-loop-node l = record {
  count : length l.marks.items ≡ length l.graph.nodes.items;
  so_far : (listed : List Passage) × (l.listing.text.items ≡ listing_text l.shows.telling l.shows.recipes listed)
      × (l.listing.lists_any ≡ lists_any listed) × (l.listing.always.items ≡ lines_run_always l.shows.telling l.shows.recipes listed) × ListedSoFar l.keeping l.graph l.marks.items l.node-index listed;
  no_fault : NoFaultSoFar l.keeping l.graph l.marks.items l.node-index;
}
