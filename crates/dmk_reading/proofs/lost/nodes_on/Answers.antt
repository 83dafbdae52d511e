use Rattle.std.proofs.Common.{◌≡◌, ◌∙◌, ◌+◌, ◌<◌, ◌≤◌, ◌||◌, ◌&&◌, ℕ, false, List, ◌∷◌, length, nat_eq, nat_lt, drop, get_or, replicate, add-one, refl, ap, subst}
use Rattle.std.proofs.lemmas.List.{length-replicate}
use Rattle.std.specs.List.{list_any}
use Rattle.std.proofs.Math.Seq.{drop-cons}
use Rattle.mk_graph.specs.Edges.{row, has}
use Rattle.mk_plan.specs.Nodes.{is_marked}
use Rattle.dmk_reading.proofs.LostLemmas.{fresh_marks, stand_start, stand_more, stand_all}
use Rattle.dmk_reading.proofs.lost.nodes_on.Goals as goal

pub loop-node-init : goal.loop-node-init
loop-node-init c =
    let graph = c.args.graph.now in
    let first = c.args.nodes.now in
    let fresh : c.in_ok-lost.lost.items ≡ replicate c.len.result false = c.in_ok-lost.ensures.items_if_clones_equal (λ y e. e) in
    stand_start graph first c.mark_all.new.lost.items (c.mark_all.ensures.count ∙ ap length fresh ∙ length-replicate c.len.result false ∙ c.len.ensures)
    (λ n. c.mark_all.ensures.marks n ∙ fresh_marks c.in_ok-lost.lost.items c.len.result (length graph.nodes.items) n (has first n) fresh c.len.ensures)

pub loop-node-preserved : goal.loop-node-preserved
loop-node-preserved c =
    let graph = c.args.graph.now in
    let i = c.loop-node.node-index in
    let read = c.as_slice-node-items.result.now in
    let n = get_or read i 0 in
    let at : drop i read ≡ n ∷ drop (i + 1) read = drop-cons read i 0 c.loop-node-test.true ∙ rw add-one refl in
    let here : drop i graph.order.items ≡ n ∷ drop (i + 1) graph.order.items =
    subst (λ (nodes : List ℕ). drop i nodes ≡ n ∷ drop (i + 1) nodes) c.as_slice-node-items.ensures.value at in
    stand_more graph c.args.nodes.now c.loop-node.lost.items c.mark_user.new.lost.items i n
    (subst (λ (nodes : List ℕ). i < length nodes) c.as_slice-node-items.ensures.value c.loop-node-test.true) here c.loop-node.invariant c.mark_user.ensures.count
    (λ q.
    c.mark_user.ensures.marks q
    ∙ ap (λ g. is_marked c.loop-node.lost.items q || ((nat_eq q n && nat_lt q (length c.loop-node.lost.items)) && list_any (is_marked c.loop-node.lost.items) (row g n)))
    c.required_edges-rows.ensures)

pub returns-clause-marks : goal.returns-clause-marks
returns-clause-marks c = λ passes n inside. stand_all c.args.graph.now c.args.nodes.now c.loop-node.lost.items c.loop-node.node-index
    (subst (λ (nodes : List ℕ). length nodes ≤ c.loop-node.node-index) c.as_slice-node-items.ensures.value c.loop-node-test.false) c.loop-node.invariant passes n inside
