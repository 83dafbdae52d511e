-- What contracts see of where nodes stand, and what is true of it. Own.
use Rattle.std.specs.Prelude.{◌≡◌, length}
use Rattle.bd_places.specs.declared.places.Places.TheInside.{Inside}
use Rattle.bd_places.specs.Placed.{Placed}
use Rattle.bd_places.specs.Settling.{standing, IsStanding}
use Rattle.bd_places.specs.Tally.{prerequisites_of, IsTallied}

abbrev pub placed_of : Inside → Placed
placed_of a = record { prerequisites = prerequisites_of a.tally; joins = a.links.joins; standing = standing a.links.lists a.ends.items }

pub record ArePlaces (a : Inside) : Type 0 where
  pub nodes : a.links.nodes ≡ length a.tally.counted
  pub standing : IsStanding (prerequisites_of a.tally) a.links.nodes (standing a.links.lists a.ends.items)
  pub tallied : IsTallied a.tally a.links.lists.settled a.ends.items
