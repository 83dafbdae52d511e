use Rattle.std.proofs.Common.{sym, ◌∙◌}
use Rattle.mk_makefile.proofs.FormLemmas.{pattern_forms-next, no_forms}
use Rattle.mk_rule_lines.proofs.LineLemmas.{from_line}
use Rattle.mk_makefile.proofs.forms.add_pattern_forms.Goals as goal

pub loop-i-preserved : goal.loop-i-preserved
loop-i-preserved c =
    let lines = c.args.lines.now in
    let at = from_line lines c.loop-i.i c.index-lines-i.result c.loop-i-test.true c.index-lines-i.is in
    pattern_forms-next _ _ _ c.loop-i.i c.index-lines-i.result lines c.in_ok-add_forms_of_line.ensures at c.loop-i.invariant

pub loop-i-preserved-then-not-is_pattern_rule : goal.loop-i-preserved-then-not-is_pattern_rule
loop-i-preserved-then-not-is_pattern_rule c =
    let lines = c.args.lines.now in
    let l = c.index-lines-i.result in
    let at = from_line lines c.loop-i.i l c.loop-i-test.true c.index-lines-i.is in
    let none = no_forms c.loop-i.forms.items c.loop-i.i l (sym c.is_pattern_rule.ensures ∙ c.if-not-is_pattern_rule.true) in
    pattern_forms-next _ _ _ c.loop-i.i l lines none at c.loop-i.invariant
