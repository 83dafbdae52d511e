use Rattle.std.proofs.Common.{◌+◌, drop, sym, ap, ◌∙◌}
use Rattle.std.proofs.lemmas.List.{drop_all}
use Rattle.mk_settings.specs.Settled.{nothing_set}
use Rattle.mk_rule_lines.proofs.LineLemmas.{from_line}
use Rattle.mk_settings.proofs.SettledLemmas.{settings_behind, settings-are, settings-next, settings-rule}
use Rattle.mk_settings.proofs.settings.Settings.of_lines.Goals as goal

pub loop-line-preserved-then-is_rule : goal.loop-line-preserved-then-is_rule
loop-line-preserved-then-is_rule c =
    let lines = c.args.lines.now in
    let k = c.loop-line.line-index in
    let l = c.line-item.result in
    let at = from_line lines k l c.loop-line-test.true c.line-item.is in
    let same = settings-rule c.loop-line.settings l (sym c.is_rule.ensures ∙ c.if-is_rule.true) in
    settings-next c.loop-line.settings c.loop-line.settings (settings_behind nothing_set lines) l (drop k lines) (drop (k + 1) lines) at same c.loop-line.invariant

pub loop-line-preserved : goal.loop-line-preserved
loop-line-preserved c =
    let lines = c.args.lines.now in
    let k = c.loop-line.line-index in
    let l = c.line-item.result in
    let at = from_line lines k l c.loop-line-test.true c.line-item.is in
    settings-next c.loop-line.settings c.take_in.new.self (settings_behind nothing_set lines) l (drop k lines) (drop (k + 1) lines) at c.in_ok-take_in.ensures c.loop-line.invariant

pub returns : goal.returns
returns c =
    let lines = c.args.lines.now in
    let none = drop_all c.loop-line.line-index lines c.loop-line-test.false in
    sym (ap (settings_behind c.loop-line.settings) none) ∙ c.loop-line.invariant ∙ settings-are lines
