use Rattle.std.proofs.Common.{sym, ap, ◌∙◌}
use Rattle.std.specs.List.{list_any}
use Rattle.mk_lines.specs.Text.{is_dollar}
use Rattle.mk_macros.specs.Expansion.{gives}
use Rattle.mk_macros.specs.Ranks.{defined_by}
use Rattle.mk_eval.proofs.MakefileLemmas.{names_stand, names_expanded, names_fault}
use Rattle.mk_eval.proofs.names.names_on.Goals as goal

pub returns-then-not-has_dollar-clause-names : goal.returns-then-not-has_dollar-clause-names
returns-then-not-has_dollar-clause-names c =
    names_stand (defined_by c.args.macros.now) c.args.include.now.names c.in_ok-names.names.items
    (ap (list_any is_dollar) (sym c.as_slice-text.ensures) ∙ sym c.has_dollar.ensures ∙ c.if-not-has_dollar.true) (c.in_ok-names.ensures.items ∙ c.as_slice-text.ensures)

pub returns-in-Ok-clause-names : goal.returns-in-Ok-clause-names
returns-in-Ok-clause-names c =
    let expands = rw c.as_slice-text.ensures at c.in-Ok.ensures.found in
    names_expanded (defined_by c.args.macros.now) c.args.include.now.names (gives c.in-Ok.names.items)
    (ap (list_any is_dollar) (sym c.as_slice-text.ensures) ∙ sym c.has_dollar.ensures ∙ c.if-not-has_dollar.false) expands

pub returns-in-Err-clause-fault : goal.returns-in-Err-clause-fault
returns-in-Err-clause-fault c =
    let expands = rw c.as_slice-text.ensures at c.in-Err.ensures.fault in
    names_fault (defined_by c.args.macros.now) c.args.file.now c.args.include.now c.in-Err.fault c.refuse_text.result
    (ap (list_any is_dollar) (sym c.as_slice-text.ensures) ∙ sym c.has_dollar.ensures ∙ c.if-not-has_dollar.false) expands c.refuse_text.ensures.refused c.refuse_text.ensures.memory
