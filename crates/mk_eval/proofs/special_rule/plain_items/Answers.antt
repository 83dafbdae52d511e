use Rattle.std.proofs.Common.{◌≡◌, true, false, Ok, Err, sym, ap, ◌∙◌}
use Rattle.mk_macros.specs.Ranks.{defined_by}
use Rattle.mk_reader.specs.Grammar.{refusal}
use Rattle.mk_reader.specs.Special.{is_refused}
use Rattle.mk_reader.specs.declared.fault.Cause.TheVariants.{Unsupported}
use Rattle.mk_reader.specs.declared.fault.Feature.TheVariants.{SpecialName as SpecialRule}
use Rattle.mk_eval.specs.Makefile.{PlainItems, named_rule}
use Rattle.mk_eval.proofs.RuleLemmas.{plain_of, named_refused, named_taken, refused_given}
use Rattle.mk_eval.proofs.special_rule.plain_items.Goals as goal

pub returns-in_default-clause-items : goal.returns-in_default-clause-items
returns-in_default-clause-items g c = λ world allowed.
    let given = defined_by c.args.macros.now in
    let found = c.in_ok-rule.rule in
    plain_of world c.args.rule found given c.in_ok-name.name (Ok c.in_ok-take.field-0.items) c.in_ok-name.ensures (c.in_ok-rule.ensures.rule world allowed)
    (ap Ok c.in_ok-take.ensures.items ∙ ap (named_rule given.language found) (sym c.in_default.is))

pub returns-then-is_refused-clause-items : goal.returns-then-is_refused-clause-items
returns-then-is_refused-clause-items g c = λ world allowed.
    let given = defined_by c.args.macros.now in
    let found = c.in_ok-rule.rule in
    let name = c.in-Some.name in
    let refused : is_refused given.language name ≡ true = ap (λ p. is_refused p name) (sym c.profile.ensures) ∙ sym c.is_refused.ensures ∙ c.if-is_refused.true in
    let why = Unsupported (SpecialRule name) in
    refused_given (PlainItems world c.args.rule given) c.refuse.result (refusal c.as_slice.result.now found.line why) c.refuse.ensures
    (plain_of world c.args.rule found given c.in_ok-name.name (Err (refusal c.as_slice.result.now found.line why)) c.in_ok-name.ensures (c.in_ok-rule.ensures.rule world allowed)
    (ap (λ file. Err (refusal file found.line why)) c.as_slice.ensures ∙ sym (named_refused given.language found name refused) ∙ ap (named_rule given.language found) (sym c.in-Some.is)))

pub returns-clause-items : goal.returns-clause-items
returns-clause-items g c = λ world allowed.
    let given = defined_by c.args.macros.now in
    let found = c.in_ok-rule.rule in
    let name = c.in-Some.name in
    let taken : is_refused given.language name ≡ false = ap (λ p. is_refused p name) (sym c.profile.ensures) ∙ sym c.is_refused.ensures ∙ c.if-is_refused.false in
    plain_of world c.args.rule found given c.in_ok-name.name (Ok c.in_ok-take-2.field-0.items) c.in_ok-name.ensures (c.in_ok-rule.ensures.rule world allowed)
    (ap Ok c.in_ok-take-2.ensures.items ∙ sym (named_taken given.language found name taken) ∙ ap (named_rule given.language found) (sym c.in-Some.is))
