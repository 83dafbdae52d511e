use Rattle.std.proofs.Common.{◌≡◌, ◌∙◌, Some, true, false, sym}
use Rattle.std.specs.FinMap as map
use Rattle.mk_rule_lines.proofs.LineLemmas.{handed_on}
use Rattle.mk_sources.proofs.AskedLemmas.{search_look, name_search, leader_search}
use Rattle.mk_sources.proofs.SeveralLemmas.{led_is, not_found}
use Rattle.mk_sources.specs.Asked.{IsImplicitFault}
use Rattle.mk_sources.specs.LooksLaws.{looks_on}
use Rattle.mk_nodes.specs.Prerequisites.{inputs_of, found_source}
use Rattle.mk_sources.proofs.several.led_source.Goals as goal

pub returns-in_default-clause-source : goal.returns-in_default-clause-source
returns-in_default-clause-source g c = λ looks now.
    let rules = c.args.rules.now in
    not_found (inputs_of rules.lines.now (map.get rules.state.now) looks) c.args.name.now _ c.in_default.is (c.in_ok-source.ensures.source looks now)

pub returns-then-branch-clause-source : goal.returns-then-branch-clause-source
returns-then-branch-clause-source g c = λ looks now.
    let rules = c.args.rules.now in
    let led = c.in_ok-is_led.ensures in
    let said = c.in_ok-source.ensures.source looks (led.looks.narrows looks now) in
    let is = c.in-Some.is in
    let found : Some c.in-Some.source ≡ found_source (inputs_of rules.lines.now (map.get rules.state.now) looks) c.args.name.now = cc in
    led_is (inputs_of rules.lines.now (map.get rules.state.now) looks) c.args.name.now c.in-Some.source true found (sym c.if-branch.true ∙ led.led looks now)

pub returns-else-branch-clause-source : goal.returns-else-branch-clause-source
returns-else-branch-clause-source g c = λ looks now.
    let rules = c.args.rules.now in
    let led = c.in_ok-is_led.ensures in
    let said = c.in_ok-source.ensures.source looks (led.looks.narrows looks now) in
    let is = c.in-Some.is in
    let found : Some c.in-Some.source ≡ found_source (inputs_of rules.lines.now (map.get rules.state.now) looks) c.args.name.now = cc in
    led_is (inputs_of rules.lines.now (map.get rules.state.now) looks) c.args.name.now c.in-Some.source false found (sym c.if-branch.false ∙ led.led looks now)

pub returns-then-branch-clause-looks : goal.returns-then-branch-clause-looks
returns-then-branch-clause-looks g c = looks_on _ _ _ _ _ _ _ _ _ _ _ _ c.in_ok-source.ensures.looks c.in_ok-is_led.ensures.looks

pub returns-else-branch-clause-looks : goal.returns-else-branch-clause-looks
returns-else-branch-clause-looks g c = looks_on _ _ _ _ _ _ _ _ _ _ _ _ c.in_ok-source.ensures.looks c.in_ok-is_led.ensures.looks

pub returns-in_err-is_led-clause-looks : goal.returns-in_err-is_led-clause-looks
returns-in_err-is_led-clause-looks g c = looks_on _ _ _ _ _ _ _ _ _ _ _ _ c.in_ok-source.ensures.looks c.in_err-is_led.ensures.looks

pub returns-in_err-source-clause-fault : goal.returns-in_err-source-clause-fault
returns-in_err-source-clause-fault g c =
    let rules = c.args.rules.now in
    let name = c.args.name.now in
    let entries = map.get rules.state.now in
    let allowed = g.T.Tree.allows c.found_source.new.tree in
    let refuses = g.T.Tree.refuses c.found_source.new.tree in
    let met = c.in_err-source.ensures in
    let f = c.in_err-source.field-0.0 in
    handed_on _ (IsImplicitFault rules.targets.now allowed refuses rules.forms.now rules.steps rules.lines.now entries name) f (c.from_residual.ensures).1
    (name_search rules.targets.now allowed refuses rules.forms.now rules.steps rules.lines.now name entries f
    (search_look rules.targets.now allowed refuses rules.forms.now rules.steps rules.lines.now name met.unasked (λ beside. beside.1) f met.fault))

pub returns-in_err-is_led-clause-fault : goal.returns-in_err-is_led-clause-fault
returns-in_err-is_led-clause-fault g c =
    let rules = c.args.rules.now in
    let name = c.args.name.now in
    let entries = map.get rules.state.now in
    let allowed = g.T.Tree.allows c.is_led.new.tree in
    let refuses = g.T.Tree.refuses c.is_led.new.tree in
    let met = c.in_err-is_led.ensures in
    let f = c.in_err-is_led.field-0.0 in
    handed_on _ (IsImplicitFault rules.targets.now allowed refuses rules.forms.now rules.steps rules.lines.now entries name) f (c.from_residual-in_err-is_led.ensures).1
    (leader_search rules.targets.now allowed refuses rules.forms.now rules.steps rules.lines.now name entries c.in-Some.source
    (λ looks now.
    let said = c.in_ok-source.ensures.source looks (met.looks.narrows looks now) in
    let is = c.in-Some.is in
    let found : found_source (inputs_of rules.lines.now entries looks) name ≡ Some c.in-Some.source = cc in found) met.fault.0 met.fault.1.0 f met.fault.1.1)
