use Rattle.std.proofs.Common.{true≢false, sym, ◌∙◌, subst}
use Rattle.bd_places.specs.Placed.{nodes_of, IsOpen}
use Rattle.bd_ledger.specs.Sheet.{Sheet}
use Rattle.bd_places.proofs.PlaceLemmas.{open_by_stand, open_is_by_stand, shut_past}
use Rattle.bd_ledger.proofs.ledger.Ledger.is_open.Goals as goal

pub returns-in-Some : goal.returns-in-Some
returns-in-Some c =
    let lists = c.self.inside.places.standing.lists in (
      λ yes. subst (λ (b : Sheet). IsOpen b.standing.lists c.args.node) c.self.view_is
          (open_by_stand lists c.args.node c.in-Some.stand c.in-Some.ensures.stand.1 (sym c.is_open.ensures ∙ yes)),
      λ is. c.is_open.ensures ∙ open_is_by_stand lists c.args.node c.in-Some.stand c.in-Some.ensures.stand.1
          (subst (λ (b : Sheet). IsOpen b.standing.lists c.args.node) (sym c.self.view_is) is),
    )

pub returns-in-None : goal.returns-in-None
returns-in-None c =
    let places = c.self.inside.places in (
      λ yes. absurd (true≢false (sym yes)),
      λ is. absurd (shut_past (nodes_of places) places.standing.lists c.in-None.ensures.standing.each_once c.args.node c.in-None.ensures.stand
          (subst (λ (b : Sheet). IsOpen b.standing.lists c.args.node) (sym c.self.view_is) is)),
    )
