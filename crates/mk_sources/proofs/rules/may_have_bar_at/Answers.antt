use Rattle.std.proofs.Common.{◌∙◌, [], Option, length, refl, ap}
use Rattle.std.specs.Option.{option_map_or}
use Rattle.std.proofs.lemmas.Option.{slice_get_read}
use Rattle.mk_rule_lines.specs.Explicit.{order_only_in}
use Rattle.mk_rule_lines.specs.declared.rule_line.RuleLine.{RuleLine}
use Rattle.mk_sources.proofs.OrderOnlyLemmas.{none_in}
use Rattle.mk_sources.proofs.rules.may_have_bar_at.Goals as goal

pub returns-in-Some : goal.returns-in-Some
returns-in-Some c = λ no.
    let lines = c.args.lines.now in
    let line = c.in-Some.line.now in
    let read = c.in-Some.ensures.lookup in
    ap (λ (o : Option RuleLine). option_map_or order_only_in o []) (slice_get_read lines (length lines) c.args.number line refl read.3.0 read.1)
    ∙ none_in line (c.may_have_bar.ensures no)
