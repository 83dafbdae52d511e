use Rattle.std.proofs.Common.{◌≡◌, ◌∙◌, ℕ, ◌+◌, List, ◌∷◌, drop, filter, not, refl, sym, ap, subst}
use Rattle.byte_strings.specs.Blanks.{words}
use Rattle.mk_macros.specs.Expansion.{ExpandsTo, gives}
use Rattle.mk_macros.specs.Ranks.{Defined, defined_by, rule_meanings}
use Rattle.mk_reader.specs.declared.item.Item.{Item}
use Rattle.mk_reader.specs.declared.item.Item.TheVariants as item
use Rattle.dmk_reading.specs.BuiltIn.{texts, rules}
use Rattle.mk_rule_lines.specs.Rules.{has}
use Rattle.dmk_reading.proofs.OwnLemmas.{SoFar, so_far_start, so_far_same, so_far_definition, so_far_special, so_far_fault, so_far_rule, from_item}
use Rattle.dmk_reading.proofs.own_rules.standing_rules.Goals as goal
use Rattle.dmk_reading.proofs.own_rules.standing_rules.Goals.{in-Definition+in_ok-define-in-Definition, in-Rule+in_ok-targets-in-Rule+in-Some+in_ok-left-in-Rule, in-Rule+in_ok-targets-in-Rule+in_default, in-Special}

pub loop-item-init : goal.loop-item-init
loop-item-init c =
    so_far_start (λ rule. rule.0) rules (defined_by c.args.macros.now) c.args.items.now (texts c.in_ok-left.left.items) (ap texts c.in_ok-left.ensures.items)

pub loop-item-preserved : goal.loop-item-preserved
loop-item-preserved c =
    let items : List Item = c.args.items.now in
    let given : Defined = defined_by c.args.macros.now in
    let now : Defined = defined_by c.loop-item.macros in
    let left : List (List ℕ × List ℕ) = texts c.loop-item.left.items in
    let rest : List Item = drop c.loop-item.item-index items in
    let more : List Item = drop (c.loop-item.item-index + 1) items in
    let at : rest ≡ c.item-item.result ∷ more
    = from_item items c.loop-item.item-index c.item-item.result c.loop-item-test.true c.item-item.is in
    elim c.match-item.branch [
      | in-Definition+in_ok-define-in-Definition w ↦
          let same : texts c.match-item.left.items ≡ left = rw w.left-is refl in
          let behind : Defined = defined_by w.define.new.macros in
          so_far_same (λ rule. rule.0) rules given items behind (defined_by c.match-item.macros) more left (texts c.match-item.left.items) (ap defined_by w.macros-is) same
          (so_far_definition (λ rule. rule.0) rules given items now behind rest more left w.in-Definition.definition
          (at ∙ ap (λ i. i ∷ more) w.in-Definition.is) w.in_ok-define-in-Definition.ensures c.loop-item.invariant)
      | in-Rule+in_ok-targets-in-Rule+in-Some+in_ok-left-in-Rule w ↦
          let text : List ℕ = w.in-Some.targets.items in
          let new : List (List ℕ × List ℕ) = texts w.in_ok-left-in-Rule.left.items in
          let same : texts c.match-item.left.items ≡ new = rw w.left-is refl in
          let so : SoFar (λ rule. rule.0) rules given items now (item.Rule w.in-Rule.rule ∷ more) left
          = subst (λ r. SoFar (λ rule. rule.0) rules given items now r left) (at ∙ ap (λ i. i ∷ more) w.in-Rule.is) c.loop-item.invariant in
          let found : ExpandsTo (rule_meanings now) w.as_slice.result.now (gives text) = rw w.in-Some.is at w.in_ok-targets-in-Rule.ensures.some in
          let expands : ExpandsTo (rule_meanings now) w.in-Rule.rule.targets (gives text)
          = subst (λ t. ExpandsTo (rule_meanings now) t (gives text)) w.as_slice.ensures found in
          let is : new ≡ filter (λ r. not (has r.0 (words text))) left
          = rw (w.deref.ensures.value, w.deref-in-Some.ensures.value) at w.in_ok-left-in-Rule.ensures in
          so_far_same (λ rule. rule.0) rules given items now (defined_by c.match-item.macros) more new (texts c.match-item.left.items) (ap defined_by w.macros-is) same
          (so_far_rule (λ rule. rule.0) rules given items now more left w.in-Rule.rule text expands so new is)
      | in-Rule+in_ok-targets-in-Rule+in_default w ↦
          let same : texts c.match-item.left.items ≡ left = rw w.left-is refl in
          let none : (bytes : List ℕ) → ExpandsTo (rule_meanings now) w.in-Rule.rule.targets (gives bytes) → ⊥
          = λ bytes e. w.in_ok-targets-in-Rule.ensures.none w.in_default.is bytes
          (subst (λ t. ExpandsTo (rule_meanings now) t (gives bytes)) (sym w.as_slice.ensures) e) in
          so_far_same (λ rule. rule.0) rules given items now (defined_by c.match-item.macros) more left (texts c.match-item.left.items) (ap defined_by w.macros-is) same
          (so_far_fault (λ rule. rule.0) rules given items now rest more left w.in-Rule.rule (at ∙ ap (λ i. i ∷ more) w.in-Rule.is) none c.loop-item.invariant)
      | in-Special w ↦
          let same : texts c.match-item.left.items ≡ left = rw w.left-is refl in
          so_far_same (λ rule. rule.0) rules given items now (defined_by c.match-item.macros) more left (texts c.match-item.left.items) (ap defined_by w.macros-is) same
          (so_far_special (λ rule. rule.0) rules given items now rest more left w.in-Special.field-0 (at ∙ ap (λ i. i ∷ more) w.in-Special.is) c.loop-item.invariant)
    ]
