use Rattle.std.proofs.Common.{ℕ, List, Option, subst}
use Rattle.std.specs.Prelude.{option_to_list}
use Rattle.std.specs.FinMap as map
use Rattle.mk_rule_lines.proofs.LineLemmas.{handed_on}
use Rattle.mk_rule_lines.proofs.ResultLemmas.{if_ok, if_err}
use Rattle.mk_makefile.specs.declared.form.Source.{Source}
use Rattle.mk_sources.specs.Asked.{IsLookUpFault}
use Rattle.mk_sources.specs.LooksLaws.{looks_on}
use Rattle.mk_nodes.specs.Prerequisites.{inputs_of, implicit_source}
use Rattle.mk_sources.specs.Seen.{IsRuled}
use Rattle.mk_sources.proofs.AskedLemmas.{source_look, others_look}
use Rattle.mk_sources.proofs.seen.searched.Goals as goal

pub returns-clause-ruled : goal.returns-clause-ruled
returns-clause-ruled g c =
    let rules = c.args.rules.now in
    let name = c.args.name.now in
    if_ok c.ruled_by.result _ _
    (λ ruled is looks now stamp.
    let inputs = inputs_of rules.lines.now (map.get rules.state.now) looks in
    let source = c.in_ok-source.ensures.source looks (c.ruled_by.ensures.looks.narrows looks now) in
    subst (λ (own : List ℕ). IsRuled inputs name (implicit_source inputs name) own c.args.left ruled) c.requires.own
    (subst (λ (s : Option Source). IsRuled inputs name s (option_to_list c.args.own) c.args.left ruled) source (is name looks now c.requires.numbers stamp)))
    c.ruled_by.ensures.ruled

pub returns-clause-looks : goal.returns-clause-looks
returns-clause-looks g c = looks_on _ _ _ _ _ _ _ _ _ _ _ _ c.in_ok-source.ensures.looks c.ruled_by.ensures.looks

pub returns-clause-fault : goal.returns-clause-fault
returns-clause-fault g c =
    let rules = c.args.rules.now in
    let name = c.args.name.now in
    let entries = map.get rules.state.now in
    let allowed = g.T.Tree.allows c.ruled_by.new.tree in
    let refuses = g.T.Tree.refuses c.ruled_by.new.tree in
    if_err c.ruled_by.result _ _
    (others_look rules.targets.now allowed refuses rules.forms.now rules.steps rules.lines.now name entries c.in_ok-source.source
    (λ looks now. c.in_ok-source.ensures.source looks (c.ruled_by.ensures.looks.narrows looks now)))
    c.ruled_by.ensures.fault

pub returns-in_err-source-clause-fault : goal.returns-in_err-source-clause-fault
returns-in_err-source-clause-fault g c =
    let rules = c.args.rules.now in
    let name = c.args.name.now in
    let entries = map.get rules.state.now in
    let allowed = g.T.Tree.allows c.implicit_source.new.tree in
    let refuses = g.T.Tree.refuses c.implicit_source.new.tree in
    handed_on _ (IsLookUpFault rules.targets.now allowed refuses rules.forms.now rules.steps rules.lines.now entries name) c.in_err-source.field-0.0
    (c.from_residual.ensures).1
    (source_look rules.targets.now allowed refuses rules.forms.now rules.steps rules.lines.now name entries c.in_err-source.field-0.0 c.in_err-source.ensures.fault)
