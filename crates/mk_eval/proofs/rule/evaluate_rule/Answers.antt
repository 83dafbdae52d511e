use Rattle.std.proofs.Common.{◌≡◌, true, sym, ap, subst, ◌∙◌}
use Rattle.mk_macros.specs.Ranks.{defined_by}
use Rattle.mk_profile.specs.Profile.{is_wide}
use Rattle.mk_lines.specs.References.{Without}
use Rattle.mk_lines.specs.Quoted.{IsColonCut, without_quoted}
use Rattle.mk_eval.specs.Static.{DefinesMacro}
use Rattle.mk_eval.proofs.RuleLemmas.{static_given, plain_given}
use Rattle.mk_eval.proofs.rule.evaluate_rule.Goals as goal

pub returns-in-Some-clause-items : goal.returns-in-Some-clause-items
returns-in-Some-clause-items g c = λ world allowed.
    let given = defined_by c.args.macros.now in
    let wide : is_wide given.language ≡ true = ap is_wide (sym c.profile.ensures) ∙ sym c.is_wide.ensures ∙ c.if-not-is_wide.false in
    let cut = subst (λ text. IsColonCut text c.in-Some.left.now c.in-Some.right.now) c.as_slice-2.ensures c.in-Some.ensures in
    static_given world c.args.rule given c.in-Some.left.now c.in-Some.right.now c.static_items.result wide
    (λ defines. cc (sym (c.defines_macro.ensures.1 (subst DefinesMacro (sym c.as_slice.ensures) defines)) ∙ c.if-defines_macro.false)) cut (c.static_items.ensures.items world allowed)

pub returns-clause-items : goal.returns-clause-items
returns-clause-items g c = λ world allowed.
    let given = defined_by c.args.macros.now in
    let wide : is_wide given.language ≡ true = ap is_wide (sym c.profile.ensures) ∙ sym c.is_wide.ensures ∙ c.if-not-is_wide.false in
    let without = subst (λ text. Without 58 58 (without_quoted text)) c.as_slice-2.ensures c.in_default.ensures in
    plain_given world c.args.rule given c.plain_items.result wide
    (λ defines. cc (sym (c.defines_macro.ensures.1 (subst DefinesMacro (sym c.as_slice.ensures) defines)) ∙ c.if-defines_macro.false)) without (c.plain_items.ensures.items world allowed)
