use Rattle.bd_places.proofs.PlaceLemmas.{join_kept}
use Rattle.bd_places.proofs.places.Places.join.Goals as goal

pub invariant_of-self : goal.invariant_of-self
invariant_of-self c = join_kept c.self.inside c.self.invariant c.join.new.self c.join.ensures
