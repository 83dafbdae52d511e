use Rattle.std.proofs.Common.{◌+◌, cond, Some, None, slice_index, take, drop, nat_lt, ap, ◌∙◌}
use Rattle.bd_links.specs.SixLists.{list_in}
use Rattle.bd_links.proofs.LinkedLemmas.{next_of}
use Rattle.bd_links.proofs.ListLemmas.{parts_at, slice_get-drop}
use Rattle.bd_links.proofs.links.Links.after.Goals as goal

pub returns : goal.returns
returns c = λ s k there.
    let xs = list_in c.args.self.now.lists s in
    c.node_at.ensures
    ∙ ap (λ p. cond (nat_lt p c.self.inside.nodes) (Some p) None) (c.next.ensures ∙ ap (slice_index c.self.inside.ring.next.items) c.number.ensures)
    ∙ next_of _ _ _ c.self.inside.nodes _ c.self.invariant.linked s c.args.node (take k xs) (drop (k + 1) xs)
    (ap (λ v. list_in v.lists s) c.self.view_is ∙ parts_at xs k c.args.node there)
    ∙ slice_get-drop (k + 1) xs
