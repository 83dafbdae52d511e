use Rattle.std.proofs.Common.{cond, Some, None, slice_index, slice_get, nat_lt, ap, ◌∙◌}
use Rattle.bd_links.specs.SixLists.{list_in}
use Rattle.bd_links.proofs.LinkedLemmas.{first_of, each_once}
use Rattle.bd_links.proofs.links.Links.front.Goals as goal

pub returns-clause-front : goal.returns-clause-front
returns-clause-front c =
    c.node_at.ensures
    ∙ ap (λ p. cond (nat_lt p c.self.inside.nodes) (Some p) None) (c.next.ensures ∙ ap (slice_index c.self.inside.ring.next.items) c.anchor.ensures)
    ∙ first_of _ _ _ c.self.inside.nodes _ c.self.invariant.linked c.args.list
    ∙ ap (λ v. slice_get (list_in v.lists c.args.list) 0) c.self.view_is

pub returns-clause-each_once : goal.returns-clause-each_once
returns-clause-each_once c = rw (← c.self.view_is) (each_once _ _ _ c.self.inside.nodes _ c.self.invariant.linked)
