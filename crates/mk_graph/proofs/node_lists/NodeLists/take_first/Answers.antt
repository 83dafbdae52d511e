use Rattle.std.proofs.Common.{◌≡◌, ◌≢◌, ℕ, ◌-◌, ◌<◌, false, List, ◌∷◌, length, get_or, set, slice_index, sym, ap, ◌∙◌, subst, arith, rules}
use Rattle.std.proofs.lemmas.Grind.{common_steps}
use Rattle.std.proofs.lemmas.List.{get_or_read}
use Rattle.mk_graph.specs.Edges.{row, has}
use Rattle.mk_graph.specs.NodeLists.{lists_of, AreLists}
use Rattle.mk_graph.proofs.NodeListLemmas.{length-lists, take_lists, first_node, taken_from, taken_free, take_elsewhere}
use Rattle.mk_graph.proofs.node_lists.NodeLists.take_first.Goals as goal

module _ (heads next : List ℕ) (now : List (List ℕ)) (old : AreLists heads next) (view : lists_of heads next ≡ now) (at : ℕ)
    (in_now : at < length now) (head : ℕ) (read : head ≡ get_or heads at head) (some : 0 < head) where
  within : at < length heads
  within = let l = length-lists heads next in let e = ap length view in omega arith

  is_head : slice_index heads at ≡ head
  is_head = sym (get_or_read heads at head within read 0)

  some_there : 0 < slice_index heads at
  some_there = subst (λ k. 0 < k) (sym is_head) some

  known : head - 1 < length next
  known = subst (λ k. k - 1 < length next) is_head (first_node heads next old at within some_there).known

  module _ (link : ℕ) (on : link ≡ get_or next (head - 1) link) where
    is_link : slice_index next (slice_index heads at - 1) ≡ link
    is_link = ap (λ k. slice_index next (k - 1)) is_head ∙ sym (get_or_read next (head - 1) link known on 0)

    lists : AreLists (set heads at link) next
    lists = subst (λ k. AreLists (set heads at k) next) is_link (take_lists heads next old at within some_there)

    from : row now at ≡ (head - 1) ∷ row (lists_of (set heads at link) next) at
    from = sym (ap (λ l. row l at) view) ∙ taken_from heads next old at within some_there
        ∙ (λ i. (is_head i - 1) ∷ row (lists_of (set heads at (is_link i)) next) at)

    free : (p : ℕ) → has (row (lists_of (set heads at link) next) p) (head - 1) ≡ false
    free p = sym (λ i. has (row (lists_of (set heads at (is_link i)) next) p) (is_head i - 1)) ∙ taken_free heads next old at within some_there p

    elsewhere : (p : ℕ) → p ≢ at → row (lists_of (set heads at link) next) p ≡ row now p
    elsewhere p off = sym (λ i. row (lists_of (set heads at (is_link i)) next) p) ∙ take_elsewhere heads next old at within some_there p off ∙ ap (λ l. row l p) view

pub index-requires : goal.index-requires
index-requires c =
    let k = known c.self.inside.heads.items c.self.inside.next.items c.args.self.now c.self.invariant c.self.view_is c.args.list c.requires c.index-head.result.now c.index-head.ensures (omega arith) in
    first_of (search (rules, k), grind (arith, common_steps, k))

pub invariant_of-self : goal.invariant_of-self
invariant_of-self c =
    lists c.self.inside.heads.items c.self.inside.next.items c.args.self.now c.self.invariant c.self.view_is c.args.list c.requires
    c.index-head.result.now c.index-head.ensures (omega arith) c.index.result.now c.index.ensures

pub returns-clause-some : goal.returns-clause-some
returns-clause-some c =
    from c.self.inside.heads.items c.self.inside.next.items c.args.self.now c.self.invariant c.self.view_is c.args.list c.requires
    c.index-head.result.now c.index-head.ensures (omega arith) c.index.result.now c.index.ensures

pub returns-clause-free : goal.returns-clause-free
returns-clause-free c =
    free c.self.inside.heads.items c.self.inside.next.items c.args.self.now c.self.invariant c.self.view_is c.args.list c.requires
    c.index-head.result.now c.index-head.ensures (omega arith) c.index.result.now c.index.ensures

pub returns-clause-elsewhere : goal.returns-clause-elsewhere
returns-clause-elsewhere c =
    elsewhere c.self.inside.heads.items c.self.inside.next.items c.args.self.now c.self.invariant c.self.view_is c.args.list c.requires
    c.index-head.result.now c.index-head.ensures (omega arith) c.index.result.now c.index.ensures
