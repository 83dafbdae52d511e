use Rattle.std.proofs.Common.{List, inl, inr, sym, subst}
use Rattle.std.specs.Prelude.{◌⊎◌}
use Rattle.mk_macros.specs.Ranks.{defined_by}
use Rattle.mk_makefile.specs.InForce.{AreLinesInForce}
use Rattle.mk_rule_lines.specs.Lines.{IsLinesFault}
use Rattle.mk_makefile.specs.Taken.{IsTakingFault}
use Rattle.mk_rule_lines.specs.declared.fault.RuleFault.{RuleFault}
use Rattle.mk_makefile.specs.declared.makefile.Makefile.{Makefile}
use Rattle.mk_rule_lines.specs.declared.rule_line.RuleLine.{RuleLine}
use Rattle.mk_makefile.proofs.InForceLemmas.{lines_are}
use Rattle.mk_rule_lines.proofs.LineLemmas.{handed_on}
use Rattle.mk_rule_lines.proofs.ResultLemmas.{if_ok, if_err}
use Rattle.mk_makefile.proofs.makefile.Makefile.of_items.Goals as goal

pub returns-clause-lines : goal.returns-clause-lines
returns-clause-lines c =
    let given = defined_by c.args.macros.now in
    let are : AreLinesInForce given c.args.items.items c.in_ok-lines.lines.items
    = lines_are given c.args.items.items c.in_ok-all.all.items c.in_ok-lines.lines.items c.profile-profile.result c.in_ok-all.ensures.lines c.profile-profile.ensures c.in_ok-lines.ensures in
    if_ok c.of_lines.result _ _ (λ (m : Makefile) is. subst (λ v. AreLinesInForce given c.args.items.items v.items) (sym is) are) c.of_lines.ensures.lines

pub returns-clause-fault : goal.returns-clause-fault
returns-clause-fault c =
    let given = defined_by c.args.macros.now in
    let are = lines_are given c.args.items.items c.in_ok-all.all.items c.in_ok-lines.lines.items c.profile-profile.result c.in_ok-all.ensures.lines c.profile-profile.ensures c.in_ok-lines.ensures in
    if_err c.of_lines.result _ _ (λ f meets. inr (c.in_ok-lines.lines.items, are, meets)) c.of_lines.ensures.fault

pub returns-in_err-all-clause-fault : goal.returns-in_err-all-clause-fault
returns-in_err-all-clause-fault c =
    let given = defined_by c.args.macros.now in
    let items = c.args.items.items in
    handed_on _
    (λ (f : RuleFault). IsLinesFault given items f ⊎ ((lines : List RuleLine) × AreLinesInForce given items lines × IsTakingFault lines f))
    c.in_err-all.field-0.0 (c.from_residual.ensures).1 (inl c.in_err-all.ensures.fault)
