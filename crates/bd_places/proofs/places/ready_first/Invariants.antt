use Rattle.std.proofs.Common.{◌≡◌, nat_eq, slice_index}
use Rattle.bd_links.specs.Linked.{Linked}
use Rattle.bd_places.proofs.StartLemmas.{split_so_far}
use Rattle.bd_places.proofs.places.ready_first.Given as goal

abbrev pub invariant-loop-node : goal.invariant-loop-node
invariant-loop-node l = ◌≡◌ {A = Linked} l.links (record l.fn.links { lists = split_so_far (λ n. nat_eq (slice_index l.missing n) 0) l.fn.links.nodes l.node })
