use Rattle.std.proofs.Common.{◌≡◌, ◌≢◌, ℕ, ◌+◌, ◌<◌, false, List, ◌∷◌, length, get_or, set, slice_index, sym, ap, ◌∙◌, subst, arith}
use Rattle.std.proofs.lemmas.List.{get_or_read}
use Rattle.mk_graph.specs.Edges.{row, has}
use Rattle.mk_graph.specs.NodeLists.{lists_of, AreLists}
use Rattle.mk_graph.proofs.NodeListLemmas.{length-lists, put_lists, put_there, put_elsewhere}
use Rattle.mk_graph.proofs.node_lists.NodeLists.put_first.Goals as goal

module _ (heads next : List ℕ) (now : List (List ℕ)) (old : AreLists heads next) (view : lists_of heads next ≡ now) (node at : ℕ)
    (known : node < length now) (within : at < length now) (free : (p : ℕ) → has (row now p) node ≡ false)
    (head : ℕ) (read : head ≡ get_or heads at head) where
  inside : (k : ℕ) → k < length now → k < length heads
  inside k lt = let l = length-lists heads next in let e = ap length view in omega arith

  free_too : (p : ℕ) → has (row (lists_of heads next) p) node ≡ false
  free_too p = ap (λ l. has (row l p) node) view ∙ free p

  in_next : node < length next
  in_next = let a = inside node known in let b = old.nodes in omega arith

  is_head : slice_index heads at ≡ head
  is_head = sym (get_or_read heads at head (inside at within) read 0)

  lists : AreLists (set heads at (node + 1)) (set next node head)
  lists = subst (λ h. AreLists (set heads at (node + 1)) (set next node h)) is_head (put_lists heads next old node at in_next (inside at within) free_too)

  there : row (lists_of (set heads at (node + 1)) (set next node head)) at ≡ node ∷ row now at
  there =
      ap (λ h. row (lists_of (set heads at (node + 1)) (set next node h)) at) (sym is_head)
      ∙ put_there heads next old node at in_next (inside at within) free_too ∙ ap (λ l. node ∷ row l at) view

  elsewhere : (p : ℕ) → p ≢ at → row (lists_of (set heads at (node + 1)) (set next node head)) p ≡ row now p
  elsewhere p off =
      ap (λ h. row (lists_of (set heads at (node + 1)) (set next node h)) p) (sym is_head)
      ∙ put_elsewhere heads next old node at in_next (inside at within) free_too p off ∙ ap (λ l. row l p) view

pub invariant_of-self : goal.invariant_of-self
invariant_of-self c =
    lists c.self.inside.heads.items c.self.inside.next.items c.args.self.now c.self.invariant c.self.view_is c.args.node c.args.list c.requires.node c.requires.list c.requires.free
    c.index.result.now c.index.ensures

pub returns-clause-there : goal.returns-clause-there
returns-clause-there c =
    there c.self.inside.heads.items c.self.inside.next.items c.args.self.now c.self.invariant c.self.view_is c.args.node c.args.list c.requires.node c.requires.list c.requires.free
    c.index.result.now c.index.ensures

pub returns-clause-elsewhere : goal.returns-clause-elsewhere
returns-clause-elsewhere c =
    elsewhere c.self.inside.heads.items c.self.inside.next.items c.args.self.now c.self.invariant c.self.view_is c.args.node c.args.list c.requires.node c.requires.list c.requires.free
    c.index.result.now c.index.ensures
