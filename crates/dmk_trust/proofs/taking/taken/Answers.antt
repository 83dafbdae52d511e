use Rattle.std.proofs.Common.{◌≡◌, ◌+◌, ℕ, Bool, List, [], ◌∷◌, drop, set, get_or, add-one, refl, sym, subst, ◌∙◌}
use Rattle.std.proofs.Math.Seq.{drop-cons}
use Rattle.std.proofs.lemmas.List.{append-nil, drop_all, length-set}
use Rattle.st_records.specs.declared.record.Record.{Record}
use Rattle.std.specs.Prelude.{option_to_list}
use Rattle.std.specs.List.{AllByRecursion}
use Rattle.dmk_trust.specs.Taken.{Takes, IsOnDisk}
use Rattle.dmk_trust.proofs.TakingLemmas.{TakenSoFar, taken_more, taken_all, all_more, noted_on_disk}
use Rattle.dmk_trust.proofs.taking.taken.Goals as goal

pub loop-node-preserved : goal.loop-node-preserved
loop-node-preserved g c =
    let graph = c.args.graph.now in
    let marks = c.loop-node.marks.items in
    let i = c.loop-node.node-index in
    let read = c.as_slice-node-items.result.now in
    let n = get_or read i 0 in
    let found = c.in_ok-found.found in
    let before = c.loop-node.records.items in
    let at : drop i read ≡ n ∷ drop (i + 1) read = drop-cons read i 0 c.loop-node-test.true ∙ rw add-one refl in
    let here : drop i graph.order.items ≡ n ∷ drop (i + 1) graph.order.items =
    subst (λ (nodes : List ℕ). drop i nodes ≡ n ∷ drop (i + 1) nodes) c.as_slice-node-items.ensures.value at in
    let takes : Takes c.args.form graph marks n found.is_remade found.note =
    subst (λ (ms : List Bool). Takes c.args.form graph ms n found.is_remade found.note) c.deref.ensures.value c.in_ok-found.ensures.taken in
    record {
      count = length-set marks n found.is_remade ∙ c.loop-node.invariant.count;
      so_far = subst (λ (notes : List Record). TakenSoFar c.args.form graph (set marks n found.is_remade) (i + 1) notes) (sym c.in_ok-add.ensures)
          (taken_more c.args.form graph marks i n found.is_remade found.note before here takes c.loop-node.invariant.so_far);
      on_disk = subst (AllByRecursion (IsOnDisk (g.P.Place.synced c.args.place.now) graph)) (sym c.in_ok-add.ensures)
          (all_more (IsOnDisk (g.P.Place.synced c.args.place.now) graph) before (option_to_list found.note) c.loop-node.invariant.on_disk
          (noted_on_disk (g.P.Place.synced c.args.place.now) takes c.in_ok-found.ensures.on_disk));
    }

pub returns-clause-taken : goal.returns-clause-taken
returns-clause-taken g c =
    let graph = c.args.graph.now in
    let i = c.loop-node.node-index in
    let taken = c.loop-node.records.items in
    let over : drop i graph.order.items ≡ [] =
    subst (λ (nodes : List ℕ). drop i nodes ≡ []) c.as_slice-node-items.ensures.value (drop_all i c.as_slice-node-items.result.now c.loop-node-test.false) in
    taken_all c.args.form graph c.loop-node.marks.items i taken over (append-nil taken) c.loop-node.invariant.so_far
