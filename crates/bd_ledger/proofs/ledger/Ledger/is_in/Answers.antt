use Rattle.std.proofs.Common.{nat_eq, sym, ap, ◌∙◌}
use Rattle.mk_graph.specs.Edges.{has}
use Rattle.bd_places.specs.Placed.{nodes_of}
use Rattle.bd_ledger.specs.Sheet.{Sheet}
use Rattle.bd_links.specs.SixLists.{code, list_in}
use Rattle.bd_places.proofs.PlaceLemmas.{has_by_stand, nowhere_past}
use Rattle.bd_ledger.proofs.ledger.Ledger.is_in.Goals as goal

pub returns-in-Some-clause-is : goal.returns-in-Some-clause-is
returns-in-Some-clause-is c =
    ap (λ k. nat_eq k c.code-in-Some.result) c.code.ensures ∙ ap (nat_eq (code c.in-Some.stand)) c.code-in-Some.ensures
    ∙ sym (has_by_stand c.self.inside.places.standing.lists c.args.node c.in-Some.stand c.in-Some.ensures.stand.1 c.args.list)
    ∙ ap (λ (b : Sheet). has (list_in b.standing.lists c.args.list) c.args.node) c.self.view_is

pub returns-in-None-clause-is : goal.returns-in-None-clause-is
returns-in-None-clause-is c =
    let places = c.self.inside.places in
    sym (nowhere_past (nodes_of places) places.standing.lists c.in-None.ensures.standing.each_once c.args.node c.in-None.ensures.stand c.args.list)
    ∙ ap (λ (b : Sheet). has (list_in b.standing.lists c.args.list) c.args.node) c.self.view_is
