use Rattle.std.proofs.Common.{ℕ, ◌+◌, List, [], ◌∷◌, ◌++◌, take, sym, ap, ◌∙◌, subst, arith}
use Rattle.mk_graph.specs.Edges.{has}
use Rattle.mk_graph.specs.Counted.{AreSets}
use Rattle.mk_graph.proofs.CountedLemmas.{sets_more}
use Rattle.mk_graph.proofs.counting.without_repeats.Goals as goal

pub loop-node-preserved : goal.loop-node-preserved
loop-node-preserved c =
    let g = c.args.rows in
    let sets = c.loop-node.sets in
    let set = c.in_ok-set_of.field-0.items in
    let P : List (List ℕ) → Type 0 = λ l. AreSets (take (c.loop-node.node + 1) g) l in
    subst P (sym (c.in_ok-push_row.ensures.ok ∙ ap (λ r. sets ++ r ∷ []) c.deref.ensures.value))
    (sets_more g sets c.loop-node.node set (omega arith) c.loop-node.invariant
    (λ m. c.in_ok-set_of.ensures.members m ∙ ap (λ l. has l m) c.row.ensures)
    c.in_ok-set_of.ensures.ascending)
