use Rattle.std.proofs.Common.{◌≡◌, true, sym, subst, refl, arith}
use Rattle.bd_links.specs.declared.stand.Stand.TheVariants.{Ready, Running, Unflushed}
use Rattle.bd_places.specs.Placed.{nodes_of}
use Rattle.bd_places.specs.Settling.{is_free}
use Rattle.bd_ledger.specs.Sheet.{Sheet}
use Rattle.bd_places.proofs.SettleLemmas.{has_from_place}
use Rattle.bd_places.proofs.StandingLemmas.{nowhere_else}
use Rattle.bd_ledger.proofs.LedgerLemmas.{put_ledger}
use Rattle.bd_ledger.proofs.ledger.Ledger.claim.Goals as goal

pub put-requires-clause-stands : goal.put-requires-clause-stands
put-requires-clause-stands c =
    (Ready, refl, has_from_place c.self.inside.places.standing.lists.ready 0 c.in_ok-node.node (sym c.in_ok-node.ensures.front))

pub invariant_of-self : goal.invariant_of-self
invariant_of-self c =
    let places = c.self.inside.places in
    put_ledger c.self.inside c.self.invariant c.in_ok-node.node Running (λ e. absurd (omega arith))
    (nowhere_else (nodes_of places) places.standing.lists c.put.ensures.standing.each_once Ready Unflushed c.in_ok-node.node (λ e. absurd (omega arith))
    (has_from_place places.standing.lists.ready 0 c.in_ok-node.node (sym c.in_ok-node.ensures.front)))
    c.put.new.self c.put.ensures.placed

pub returns-clause-free : goal.returns-clause-free
returns-clause-free c =
    subst (λ (b : Sheet). is_free b.prerequisites b.standing c.in_ok-node.node ≡ true) c.self.view_is
    (c.in_ok-node.ensures.standing.free Ready c.in_ok-node.node refl
    (has_from_place c.self.inside.places.standing.lists.ready 0 c.in_ok-node.node (sym c.in_ok-node.ensures.front)))
