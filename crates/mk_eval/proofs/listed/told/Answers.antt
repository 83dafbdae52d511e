use Rattle.std.proofs.Common.{◌≡◌, true, sym, refl, ◌∙◌}
use Rattle.std.specs.List.{list_any}
use Rattle.mk_macros.specs.Expansion.{gives, fails}
use Rattle.mk_macros.specs.Ranks.{defined_by, rule_meanings}
use Rattle.mk_lines.specs.Text.{is_dollar}
use Rattle.mk_eval.proofs.MakefileLemmas.{names_expanded, fault_some}
use Rattle.mk_eval.proofs.listed.told.Goals as goal

pub returns-in-Ok : goal.returns-in-Ok
returns-in-Ok c =
    let text = c.args.text.now in
    let given = defined_by c.args.macros.now in
    let some : list_any is_dollar text ≡ true = sym c.has_dollar.ensures ∙ c.if-not-has_dollar.false in
    (gives c.in-Ok.told.items, names_expanded given text (gives c.in-Ok.told.items) some c.in-Ok.ensures.found, refl)

pub returns-else-ran_out : goal.returns-else-ran_out
returns-else-ran_out c =
    let text = c.args.text.now in
    let given = defined_by c.args.macros.now in
    let some : list_any is_dollar text ≡ true = sym c.has_dollar.ensures ∙ c.if-not-has_dollar.false in
    let found = fault_some (rule_meanings given) text c.in-Err.fault (sym c.ran_out.ensures ∙ c.if-ran_out.false) c.in-Err.ensures.fault in
    (fails found.0, names_expanded given text (fails found.0) some found.1, (found.0, refl))
