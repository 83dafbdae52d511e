use Rattle.std.proofs.Common.{◌≡◌, length}
use Rattle.bd_links.specs.Linked.{Linked}
use Rattle.bd_places.specs.Settling.{standing, ended}
use Rattle.bd_places.specs.Tally.{prerequisites_of}
use Rattle.bd_places.proofs.SettleLemmas.{Looking, left_to_look}
use Rattle.bd_places.proofs.settling.settle.Given as goal

abbrev pub invariant-loop-looked : goal.invariant-loop-looked
invariant-loop-looked l = record {
  links : ◌≡◌ {A = Linked} l.links (record l.fn.links { lists = l.links.lists });
  looking : Looking (prerequisites_of l.fn.tally) (ended l.fn.node l.fn.end (standing l.fn.links.lists l.fn.ends)) (length l.fn.links.lists.settled)
      l.tally l.fn.links.nodes (standing l.links.lists l.ends) l.last l.looked;
}

abbrev pub decreases-loop-looked : goal.decreases-loop-looked
decreases-loop-looked l = left_to_look l.fn.links.nodes l.links.lists.settled l.looked
