use Rattle.std.proofs.Common.{◌+◌, slice_index, ap, ◌∙◌}
use Rattle.bd_links.specs.Linked.{Linked, linked_lists}
use Rattle.bd_links.specs.SixLists.{joined}
use Rattle.bd_links.proofs.SpelledLemmas.{ring_joined, IsSpelled-join, lists_anew, spelled_anew}
use Rattle.bd_links.proofs.links.Links.join.Goals as goal

pub unlink-requires-clause-ring : goal.unlink-requires-clause-ring
unlink-requires-clause-ring c =
    (ring_joined c.self.inside.ring.next.items c.self.inside.ring.prev.items c.splice.new.self.next.items c.splice.new.self.prev.items
    c.self.inside.marks.items c.self.inside.nodes c.self.inside.joins
    c.anchor-from.result c.anchor-end.result c.next-first.result (linked_lists (slice_index c.self.inside.ring.next.items) c.self.inside.nodes)
    c.self.invariant c.anchor-from.ensures c.anchor-end.ensures c.next-first.ensures c.splice.ensures.next c.splice.ensures.prev).0

pub invariant_of-self : goal.invariant_of-self
invariant_of-self c =
    spelled_anew c.unlink.new.self.next.items c.unlink.new.self.prev.items c.self.inside.marks.items c.self.inside.nodes (c.self.inside.joins + 1) _
    (IsSpelled-join c.self.inside.ring.next.items c.self.inside.ring.prev.items c.splice.new.self.next.items c.splice.new.self.prev.items
    c.self.inside.marks.items c.self.inside.nodes c.self.inside.joins
    c.anchor-from.result c.anchor-end.result c.next-first.result (linked_lists (slice_index c.self.inside.ring.next.items) c.self.inside.nodes)
    c.self.invariant c.anchor-from.ensures c.anchor-end.ensures c.next-first.ensures c.splice.ensures.next c.splice.ensures.prev
    c.unlink.new.self.next.items c.unlink.new.self.prev.items c.unlink.ensures.next c.unlink.ensures.prev)

pub returns : goal.returns
returns c =
    let lists = lists_anew c.unlink.new.self.next.items c.unlink.new.self.prev.items c.self.inside.marks.items c.self.inside.nodes (c.self.inside.joins + 1) _
    (IsSpelled-join c.self.inside.ring.next.items c.self.inside.ring.prev.items c.splice.new.self.next.items c.splice.new.self.prev.items
    c.self.inside.marks.items c.self.inside.nodes c.self.inside.joins
    c.anchor-from.result c.anchor-end.result c.next-first.result (linked_lists (slice_index c.self.inside.ring.next.items) c.self.inside.nodes)
    c.self.invariant c.anchor-from.ensures c.anchor-end.ensures c.next-first.ensures c.splice.ensures.next c.splice.ensures.prev
    c.unlink.new.self.next.items c.unlink.new.self.prev.items c.unlink.ensures.next c.unlink.ensures.prev) in
    (λ i. record { nodes = c.self.inside.nodes; joins = c.self.inside.joins + 1; lists = lists i })
    ∙ ap (λ (v : Linked). record v { joins = v.joins + 1; lists = joined v.lists }) c.self.view_is
