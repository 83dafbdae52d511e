use Rattle.std.proofs.Common.{rules, ◌≡◌, List, length, sym, ap, subst, ◌∙◌}
use Rattle.std.specs.Vec.Iter.{into_iter_items, into_iter_len}
use Rattle.mk_macros.specs.Ranks.{defined_by}
use Rattle.mk_reader.specs.declared.item.Item.{Item}
use Rattle.mk_rule_lines.proofs.LineLemmas.{one_fewer, nothing_left}
use Rattle.dmk_reading.proofs.OldLemmas.{LeftSoFar, none_left, one_left, all_left}
use Rattle.dmk_reading.proofs.old_rules.left_items.Goals as goal

pub loop-item-init : goal.loop-item-init
loop-item-init c =
    let gives = c.into_iter-item-iterator.ensures.into_iter_gives in
    let count : into_iter_len c.into_iter-item-iterator.result ≡ length c.args.items.items = search rules in
    record {
      left = count ∙ sym (ap length gives.0);
      so_far = rw (gives.0, c.in_ok-left.ensures.items) (none_left c.args.old.now (defined_by c.args.macros.now) c.args.items.items);
    }

pub loop-item-preserved : goal.loop-item-preserved
loop-item-preserved c =
    let now = c.loop-item in
    let st = c.in-Some.ensures.steps in
    let so = subst (λ (rest : List Item). LeftSoFar c.args.old.now (defined_by c.args.macros.now) c.args.items.items (defined_by now.macros) rest now.left.items) st.0 now.invariant.so_far in
    let (front, is, made) = c.in_ok-add_item.ensures.left in
    record {
      left = one_fewer _ _ c.in-Some.item (into_iter_len now.item-iterator) (into_iter_len c.next.new.self) st.0 st.1 now.invariant.left;
      so_far = one_left _ _ _ _ _ c.in-Some.item _ _ front _ is c.in_ok-add_item.ensures.macros made so;
    }

pub returns : goal.returns
returns c =
    let now = c.loop-item in
    let none = nothing_left (into_iter_items now.item-iterator) (sym now.invariant.left ∙ (c.in-None.ensures.steps).0) in
    let so = subst (λ (rest : List Item). LeftSoFar c.args.old.now (defined_by c.args.macros.now) c.args.items.items (defined_by now.macros) rest now.left.items) none now.invariant.so_far in
    all_left _ _ _ (defined_by now.macros) _ so
