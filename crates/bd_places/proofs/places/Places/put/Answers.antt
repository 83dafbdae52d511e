use Rattle.bd_places.proofs.PlaceLemmas.{put_below, put_kept}
use Rattle.bd_places.proofs.places.Places.put.Goals as goal

pub move_to-requires : goal.move_to-requires
move_to-requires c = put_below c.self.inside c.args.self.now c.self.view_is c.self.invariant c.args.node c.requires.stands

pub invariant_of-self : goal.invariant_of-self
invariant_of-self c =
    put_kept c.self.inside c.args.self.now c.self.view_is c.self.invariant c.args.node c.requires.stands c.args.to c.move_to.new.self c.requires.to c.move_to.ensures
