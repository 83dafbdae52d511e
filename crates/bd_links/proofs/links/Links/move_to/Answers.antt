use Rattle.std.proofs.Common.{◌+◌, ◌<◌, slice_index, ap, ◌∙◌, sym, subst, arith}
use Rattle.bd_links.specs.Linked.{Linked, linked_lists}
use Rattle.bd_links.specs.Ring.{IsRing}
use Rattle.bd_links.specs.SixLists.{moved}
use Rattle.bd_links.proofs.SpelledLemmas.{ring_unlinked, IsSpelled-move, lists_anew, spelled_anew}
use Rattle.bd_links.proofs.links.Links.move_to.Goals as goal

pub splice-requires-clause-ring : goal.splice-requires-clause-ring
splice-requires-clause-ring c =
    let was = c.self.invariant in
    let in_p : c.number-place.result < c.self.inside.nodes + 6 = omega (arith, ap (λ v. v.nodes) c.self.view_is) in
    let out = ring_unlinked c.self.inside.ring.next.items c.self.inside.ring.prev.items (c.self.inside.nodes + 6) was.next_places was.prev_places was.linked.ring
    c.unlink.new.self.next.items c.unlink.new.self.prev.items c.number-place.result in_p c.unlink.ensures.next c.unlink.ensures.prev in
    subst (IsRing (slice_index c.unlink.new.self.next.items) (slice_index c.unlink.new.self.prev.items)) (sym out.1) out.0

pub invariant_of-self : goal.invariant_of-self
invariant_of-self c =
    let in_p : c.number-place.result < c.self.inside.nodes = omega (arith, ap (λ v. v.nodes) c.self.view_is) in
    spelled_anew c.splice.new.self.next.items c.splice.new.self.prev.items _ c.self.inside.nodes c.self.inside.joins _
    (IsSpelled-move c.self.inside.ring.next.items c.self.inside.ring.prev.items c.unlink.new.self.next.items c.unlink.new.self.prev.items
    c.splice.new.self.next.items c.splice.new.self.prev.items c.self.inside.marks.items c.self.inside.nodes c.self.inside.joins
    c.number-place.result c.anchor-end.result c.args.list (linked_lists (slice_index c.self.inside.ring.next.items) c.self.inside.nodes)
    c.self.invariant in_p c.anchor-end.ensures c.unlink.ensures.next c.unlink.ensures.prev c.splice.ensures.next c.splice.ensures.prev)

pub returns : goal.returns
returns c =
    let in_p : c.number-place.result < c.self.inside.nodes = omega (arith, ap (λ v. v.nodes) c.self.view_is) in
    let lists = lists_anew c.splice.new.self.next.items c.splice.new.self.prev.items _ c.self.inside.nodes c.self.inside.joins _
    (IsSpelled-move c.self.inside.ring.next.items c.self.inside.ring.prev.items c.unlink.new.self.next.items c.unlink.new.self.prev.items
    c.splice.new.self.next.items c.splice.new.self.prev.items c.self.inside.marks.items c.self.inside.nodes c.self.inside.joins
    c.number-place.result c.anchor-end.result c.args.list (linked_lists (slice_index c.self.inside.ring.next.items) c.self.inside.nodes)
    c.self.invariant in_p c.anchor-end.ensures c.unlink.ensures.next c.unlink.ensures.prev c.splice.ensures.next c.splice.ensures.prev) in
    (λ i. record { nodes = c.self.inside.nodes; joins = c.self.inside.joins; lists = lists i })
    ∙ ap (λ (v : Linked). record v { lists = moved c.number-place.result c.args.list v.lists }) c.self.view_is
    ∙ ap {B = Linked} (λ n. record c.args.self.now { lists = moved n c.args.list c.args.self.now.lists }) c.number-place.ensures
