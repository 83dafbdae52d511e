use Rattle.std.proofs.Common.{◌∙◌, sym, ap}
use Rattle.std.specs.FinMap as map
use Rattle.mk_rule_lines.proofs.ResultLemmas.{if_ok}
use Rattle.mk_sources.proofs.SeveralLemmas.{old_is, not_old}
use Rattle.mk_nodes.specs.Look.{is_taken_as_old}
use Rattle.mk_nodes.specs.Prerequisites.{inputs_of}
use Rattle.mk_sources.proofs.several.implicit_source.Goals as goal

pub returns-then-is_taken_as_old-clause-source : goal.returns-then-is_taken_as_old-clause-source
returns-then-is_taken_as_old-clause-source g c = λ looks now.
    let rules = c.args.rules.now in
    old_is (inputs_of rules.lines.now (map.get rules.state.now) looks) c.args.name.now
    (ap is_taken_as_old (sym (c.requires.seen looks now)) ∙ sym c.is_taken_as_old.ensures ∙ c.if-is_taken_as_old.true)

pub returns-clause-source : goal.returns-clause-source
returns-clause-source g c =
    let rules = c.args.rules.now in
    if_ok c.led_source.result _ _
    (λ found is looks now. is looks now
    ∙ not_old (inputs_of rules.lines.now (map.get rules.state.now) looks) c.args.name.now
    (ap is_taken_as_old (sym (c.requires.seen looks (c.led_source.ensures.looks.narrows looks now))) ∙ sym c.is_taken_as_old.ensures
    ∙ c.if-is_taken_as_old.false))
    c.led_source.ensures.source
