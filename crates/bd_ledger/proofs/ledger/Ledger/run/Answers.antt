use Rattle.std.proofs.Common.{◌≡◌, true, sym, subst, arith}
use Rattle.mk_graph.specs.Edges.{has}
use Rattle.bd_links.specs.declared.stand.Stand.TheVariants.{Running, Unflushed, Flushing}
use Rattle.bd_places.specs.Placed.{nodes_of}
use Rattle.bd_ledger.specs.Sheet.{Sheet}
use Rattle.bd_places.proofs.StandingLemmas.{nowhere_else}
use Rattle.bd_ledger.proofs.LedgerLemmas.{put_ledger}
use Rattle.bd_ledger.proofs.ledger.Ledger.run.Goals as goal

pub invariant_of-self : goal.invariant_of-self
invariant_of-self c =
    let places = c.self.inside.places in
    let there : has places.standing.lists.flushing c.args.node ≡ true
    = subst (λ (b : Sheet). has b.standing.lists.flushing c.args.node ≡ true) (sym c.self.view_is) c.requires in
    put_ledger c.self.inside c.self.invariant c.args.node Running (λ e. absurd (omega arith))
    (nowhere_else (nodes_of places) places.standing.lists c.put.ensures.standing.each_once Flushing Unflushed c.args.node (λ e. absurd (omega arith)) there)
    c.put.new.self c.put.ensures.placed
