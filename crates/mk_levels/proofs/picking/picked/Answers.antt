use Rattle.std.proofs.Common.{◌≡◌, ◌+◌, ℕ, Bool, List, [], ◌∷◌, drop, set, get_or, add-one, refl, sym, subst, ◌∙◌}
use Rattle.std.proofs.Math.Seq.{drop-cons}
use Rattle.std.proofs.lemmas.List.{append-nil, drop_all, length-set}
use Rattle.st_records.specs.declared.record.Record.{Record}
use Rattle.mk_levels.specs.Picked.{Picks}
use Rattle.mk_levels.proofs.PickedLemmas.{PickedSoFar, picked_more, picked_all, picked_offered}
use Rattle.mk_levels.proofs.picking.picked.Goals as goal

pub loop-node-preserved : goal.loop-node-preserved
loop-node-preserved c =
    let wanted = c.args.wanted.now in
    let own = wanted.own.now in
    let levels = wanted.levels.now in
    let graph = c.args.graph.now in
    let marks = c.loop-node.marks.items in
    let i = c.loop-node.node-index in
    let read = c.as_slice-node-items.result.now in
    let n = get_or read i 0 in
    let found = c.in_ok-found.found in
    let before = c.loop-node.records.items in
    let at : drop i read ≡ n ∷ drop (i + 1) read = drop-cons read i 0 c.loop-node-test.true ∙ rw add-one refl in
    let here : drop i graph.order.items ≡ n ∷ drop (i + 1) graph.order.items =
    subst (λ (nodes : List ℕ). drop i nodes ≡ n ∷ drop (i + 1) nodes) c.as_slice-node-items.ensures.value at in
    let picks : Picks own levels wanted.listed graph marks n found.is_remade found.note =
    subst (λ (ms : List Bool). Picks own levels wanted.listed graph ms n found.is_remade found.note) c.deref.ensures.value c.in_ok-found.ensures in
    record {
      count = length-set marks n found.is_remade ∙ c.loop-node.invariant.count;
      so_far = subst (λ (notes : List Record). PickedSoFar own levels wanted.listed graph (set marks n found.is_remade) (i + 1) notes) (sym c.in_ok-add.ensures)
          (picked_more own levels wanted.listed graph marks i n found.is_remade found.note before here picks c.loop-node.invariant.so_far);
    }

pub returns-clause-all : goal.returns-clause-all
returns-clause-all c =
    let wanted = c.args.wanted.now in
    let graph = c.args.graph.now in
    let i = c.loop-node.node-index in
    let picked = c.loop-node.records.items in
    let over : drop i graph.order.items ≡ [] =
    subst (λ (nodes : List ℕ). drop i nodes ≡ []) c.as_slice-node-items.ensures.value (drop_all i c.as_slice-node-items.result.now c.loop-node-test.false) in
    picked_all wanted.own.now wanted.levels.now wanted.listed graph c.loop-node.marks.items i picked over (append-nil picked) c.loop-node.invariant.so_far

pub returns-clause-offered : goal.returns-clause-offered
returns-clause-offered c =
    let wanted = c.args.wanted.now in
    let graph = c.args.graph.now in
    let i = c.loop-node.node-index in
    let picked = c.loop-node.records.items in
    let over : drop i graph.order.items ≡ [] =
    subst (λ (nodes : List ℕ). drop i nodes ≡ []) c.as_slice-node-items.ensures.value (drop_all i c.as_slice-node-items.result.now c.loop-node-test.false) in
    picked_offered
    (picked_all wanted.own.now wanted.levels.now wanted.listed graph c.loop-node.marks.items i picked over (append-nil picked) c.loop-node.invariant.so_far)
