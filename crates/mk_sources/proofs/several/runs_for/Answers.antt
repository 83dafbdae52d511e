use Rattle.std.proofs.Common.{◌≡◌, ◌∙◌, Option, Some, None, false, ap}
use Rattle.std.specs.Option.{option_map_or}
use Rattle.std.specs.FinMap as map
use Rattle.mk_rule_lines.proofs.LineLemmas.{handed_on}
use Rattle.mk_makefile.specs.declared.form.Source.{Source}
use Rattle.mk_sources.proofs.AskedLemmas.{search_look}
use Rattle.mk_sources.specs.Asked.{IsFoundFault}
use Rattle.mk_nodes.specs.Prerequisites.{inputs_of, found_source, is_run_of}
use Rattle.mk_sources.proofs.several.runs_for.Goals as goal

pub returns-in-Some-clause-runs : goal.returns-in-Some-clause-runs
returns-in-Some-clause-runs g c = λ looks now.
    let said = c.in_ok-source.ensures.source looks now in
    let is = c.in-Some.is in
    let found : Some c.in-Some.source ≡ found_source (inputs_of c.args.rules.now.lines.now (map.get c.args.rules.now.state.now) looks) c.args.name.now = cc in
    c.is_run_of-runs.ensures ∙ ap (λ (s : Option Source). option_map_or (is_run_of c.args.rule) s false) found

pub returns-in-None-clause-runs : goal.returns-in-None-clause-runs
returns-in-None-clause-runs g c = λ looks now.
    let said = c.in_ok-source.ensures.source looks now in
    let is = c.in-None.is in
    let found : None ≡ found_source (inputs_of c.args.rules.now.lines.now (map.get c.args.rules.now.state.now) looks) c.args.name.now = cc in
    ap (λ (s : Option Source). option_map_or (is_run_of c.args.rule) s false) found

pub returns-in_err-source-clause-fault : goal.returns-in_err-source-clause-fault
returns-in_err-source-clause-fault g c =
    let rules = c.args.rules.now in
    let allowed = g.T.Tree.allows c.found_source.new.tree in
    let refuses = g.T.Tree.refuses c.found_source.new.tree in
    let met = c.in_err-source.ensures in
    handed_on _ (IsFoundFault rules.targets.now allowed refuses rules.forms.now rules.steps rules.lines.now c.args.name.now) c.in_err-source.field-0.0 (c.from_residual.ensures).1
    (search_look rules.targets.now allowed refuses rules.forms.now rules.steps rules.lines.now c.args.name.now met.unasked (λ beside. beside.1) c.in_err-source.field-0.0 met.fault)
