use Rattle.std.proofs.Common.{sym, subst}
use Rattle.bd_places.specs.Placed.{IsOpen}
use Rattle.bd_ledger.specs.Sheet.{Sheet}
use Rattle.bd_ledger.proofs.LedgerLemmas.{settle_ledger}
use Rattle.bd_ledger.proofs.ledger.Ledger.settle.Goals as goal

pub invariant_of-self : goal.invariant_of-self
invariant_of-self c =
    settle_ledger c.self.inside c.self.invariant c.args.node c.args.end c.settle.ensures.standing
    (subst (λ (b : Sheet). IsOpen b.standing.lists c.args.node) (sym c.self.view_is) c.requires)
    c.settle.new.self c.settle.ensures.rest c.settle.ensures.settles
