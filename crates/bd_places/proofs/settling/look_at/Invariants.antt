use Rattle.std.proofs.Common.{◌≡◌, take}
use Rattle.bd_links.specs.Linked.{Linked}
use Rattle.bd_places.specs.Settling.{standing}
use Rattle.bd_places.specs.Tally.{prerequisites_of}
use Rattle.bd_places.proofs.LookLemmas.{gone_so_far}
use Rattle.bd_places.proofs.settling.look_at.Given as goal

-- the users so far have gone on, those that can
abbrev pub invariant-loop-user : goal.invariant-loop-user
invariant-loop-user l = record {
  links : ◌≡◌ {A = Linked} l.links (record l.fn.links { lists = l.links.lists });
  so_far : standing l.links.lists l.ends ≡ gone_so_far (prerequisites_of l.tally) (standing l.fn.links.lists l.fn.ends) (take l.user-index l.users);
}
