use Rattle.std.proofs.Common.{sym, subst}
use Rattle.bd_places.specs.Placed.{Placed, IsOpen}
use Rattle.bd_places.proofs.PlaceLemmas.{open_below, open_unsettled}
use Rattle.bd_places.proofs.places.Places.settle.Goals as goal

pub settle-requires-clause-node : goal.settle-requires-clause-node
settle-requires-clause-node c =
    open_below c.self.inside.links.nodes c.self.inside.links.lists c.self.invariant.standing.each_once c.args.node
    (subst (λ (p : Placed). IsOpen p.standing.lists c.args.node) (sym c.self.view_is) c.requires)

pub settle-requires-clause-unsettled : goal.settle-requires-clause-unsettled
settle-requires-clause-unsettled c =
    open_unsettled c.self.inside.links.nodes c.self.inside.links.lists c.self.invariant.standing.each_once c.args.node
    (subst (λ (p : Placed). IsOpen p.standing.lists c.args.node) (sym c.self.view_is) c.requires)
