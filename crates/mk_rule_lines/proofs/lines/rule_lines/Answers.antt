use Rattle.std.proofs.Common.{rules, ◌≡◌, ◌∷◌, List, length, sym, ap, subst, ◌∙◌}
use Rattle.std.specs.Vec.Iter.{into_iter_items, into_iter_len}
use Rattle.mk_macros.specs.Ranks.{defined_by}
use Rattle.mk_reader.specs.declared.item.Item.{Item}
use Rattle.mk_reader.specs.declared.item.Item.TheVariants as item
use Rattle.mk_rule_lines.specs.Lines.{IsLinesFault}
use Rattle.mk_rule_lines.proofs.LineLemmas.{SoFar, so_far_start, so_far_definition, so_far_rule, so_far_special, rule_refused, special_refused, so_far_end, one_fewer, nothing_left, handed_on}
use Rattle.mk_rule_lines.proofs.lines.rule_lines.Goals as goal

pub loop-item-init : goal.loop-item-init
loop-item-init c =
    let gives = c.into_iter-item-iterator.ensures.into_iter_gives in
    let count : into_iter_len c.into_iter-item-iterator.result ≡ length c.args.items.items = search rules in
    record {
      left = count ∙ sym (ap length gives.0);
      so_far = rw (gives.0, c.in_ok-lines.ensures.items) (so_far_start (defined_by c.args.macros.now) c.args.items.items);
    }

pub loop-item-preserved-in_ok-define-in-Definition : goal.loop-item-preserved-in_ok-define-in-Definition
loop-item-preserved-in_ok-define-in-Definition c =
    let now = c.loop-item in
    let st = c.in-Some.ensures.steps in
    let at : into_iter_items now.item-iterator ≡ item.Definition c.in-Definition.definition ∷ into_iter_items c.next.new.self =
    st.0 ∙ ap (λ (i : Item). i ∷ into_iter_items c.next.new.self) c.in-Definition.is in
    let so = subst (λ (left : List Item). SoFar (defined_by c.args.macros.now) c.args.items.items (defined_by now.macros) now.lines.items left) at now.invariant.so_far in
    record {
      left = one_fewer _ _ c.in-Some.item (into_iter_len now.item-iterator) (into_iter_len c.next.new.self) st.0 st.1 now.invariant.left;
      so_far = so_far_definition _ _ _ _ _ c.in-Definition.definition (defined_by c.define.new.macros) c.in_ok-define-in-Definition.ensures so;
    }

pub returns-in_err-rule_line-in-Rule-clause-fault : goal.returns-in_err-rule_line-in-Rule-clause-fault
returns-in_err-rule_line-in-Rule-clause-fault c =
    let now = c.loop-item in
    let st = c.in-Some.ensures.steps in
    let at : into_iter_items now.item-iterator ≡ item.Rule c.in-Rule.rule ∷ into_iter_items c.next.new.self =
    st.0 ∙ ap (λ (i : Item). i ∷ into_iter_items c.next.new.self) c.in-Rule.is in
    let so = subst (λ (left : List Item). SoFar (defined_by c.args.macros.now) c.args.items.items (defined_by now.macros) now.lines.items left) at now.invariant.so_far in
    handed_on _ (IsLinesFault (defined_by c.args.macros.now) c.args.items.items) c.in_err-rule_line-in-Rule.field-0.0 (c.from_residual-in_err-rule_line-in-Rule.ensures).1
    (rule_refused _ _ _ _ _ c.in-Rule.rule so c.in_err-rule_line-in-Rule.field-0.0 c.in_err-rule_line-in-Rule.ensures.fault)

pub loop-item-preserved-in_ok-push-in-Rule : goal.loop-item-preserved-in_ok-push-in-Rule
loop-item-preserved-in_ok-push-in-Rule c =
    let now = c.loop-item in
    let st = c.in-Some.ensures.steps in
    let l = c.in_ok-rule_line-in-Rule.field-0 in
    let at : into_iter_items now.item-iterator ≡ item.Rule c.in-Rule.rule ∷ into_iter_items c.next.new.self =
    st.0 ∙ ap (λ (i : Item). i ∷ into_iter_items c.next.new.self) c.in-Rule.is in
    let so = subst (λ (left : List Item). SoFar (defined_by c.args.macros.now) c.args.items.items (defined_by now.macros) now.lines.items left) at now.invariant.so_far in
    let so_far = so_far_rule _ _ _ _ _ c.in-Rule.rule l c.in_ok-rule_line-in-Rule.ensures.line so in
    record {
      left = one_fewer _ _ c.in-Some.item (into_iter_len now.item-iterator) (into_iter_len c.next.new.self) st.0 st.1 now.invariant.left;
      so_far = rw c.in_ok-push-in-Rule.ensures.items so_far;
    }

pub returns-in_err-rule_line-in-Special-clause-fault : goal.returns-in_err-rule_line-in-Special-clause-fault
returns-in_err-rule_line-in-Special-clause-fault c =
    let now = c.loop-item in
    let st = c.in-Some.ensures.steps in
    let at : into_iter_items now.item-iterator ≡ item.Special c.in-Special.special ∷ into_iter_items c.next.new.self =
    st.0 ∙ ap (λ (i : Item). i ∷ into_iter_items c.next.new.self) c.in-Special.is in
    let so = subst (λ (left : List Item). SoFar (defined_by c.args.macros.now) c.args.items.items (defined_by now.macros) now.lines.items left) at now.invariant.so_far in
    handed_on _ (IsLinesFault (defined_by c.args.macros.now) c.args.items.items) c.in_err-rule_line-in-Special.field-0.0 (c.from_residual-in_err-rule_line-in-Special.ensures).1
    (special_refused _ _ _ _ _ c.in-Special.special.rule c.in-Special.special.name so c.in_err-rule_line-in-Special.field-0.0 c.in_err-rule_line-in-Special.ensures.fault)

pub loop-item-preserved : goal.loop-item-preserved
loop-item-preserved c =
    let now = c.loop-item in
    let st = c.in-Some.ensures.steps in
    let l = c.in_ok-rule_line-in-Special.field-0 in
    let at : into_iter_items now.item-iterator ≡ item.Special c.in-Special.special ∷ into_iter_items c.next.new.self =
    st.0 ∙ ap (λ (i : Item). i ∷ into_iter_items c.next.new.self) c.in-Special.is in
    let so = subst (λ (left : List Item). SoFar (defined_by c.args.macros.now) c.args.items.items (defined_by now.macros) now.lines.items left) at now.invariant.so_far in
    let so_far = so_far_special _ _ _ _ _ c.in-Special.special.name c.in-Special.special.rule l c.in_ok-rule_line-in-Special.ensures.line so in
    record {
      left = one_fewer _ _ c.in-Some.item (into_iter_len now.item-iterator) (into_iter_len c.next.new.self) st.0 st.1 now.invariant.left;
      so_far = rw c.in_ok-push-in-Special.ensures.items so_far;
    }

pub returns-clause-lines : goal.returns-clause-lines
returns-clause-lines c =
    let now = c.loop-item in
    let none = nothing_left (into_iter_items now.item-iterator) (sym now.invariant.left ∙ (c.in-None.ensures.steps).0) in
    let so = subst (λ (left : List Item). SoFar (defined_by c.args.macros.now) c.args.items.items (defined_by now.macros) now.lines.items left) none now.invariant.so_far in
    so_far_end _ _ _ _ so

pub returns-clause-macros : goal.returns-clause-macros
returns-clause-macros c =
    let now = c.loop-item in
    let none = nothing_left (into_iter_items now.item-iterator) (sym now.invariant.left ∙ (c.in-None.ensures.steps).0) in
    let so = subst (λ (left : List Item). SoFar (defined_by c.args.macros.now) c.args.items.items (defined_by now.macros) now.lines.items left) none now.invariant.so_far in
    so.all
