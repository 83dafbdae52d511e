use Rattle.std.proofs.Common.{◌++◌, map, sym, ap, ◌∙◌, append-nil, Some, option_copied}
use Rattle.mk_statements.specs.Reading.{outside, statements_left, statements, stated}
use Rattle.mk_statements.proofs.ReadingLemmas.{none_left, stated_more}
use Rattle.mk_statements.proofs.statements.statements_of.Goals as goal

pub loop-left-init : goal.loop-left-init
unfolding statements
loop-left-init c = ap (λ ls. map stated ls ++ statements_left outside 1 (Some c.args.text.now)) c.in_ok-lines.ensures.items

pub loop-left-preserved : goal.loop-left-preserved
loop-left-preserved c =
    stated_more c.loop-left.lines.items _ c.in_ok-line.line _ _ c.in_ok-push.ensures.items
    (ap (λ o. statements_left outside c.loop-left.number (option_copied o)) c.in-Some.is ∙ c.in_ok-line.ensures.line)
    ∙ c.loop-left.invariant

pub returns : goal.returns
returns c =
    sym (append-nil (map stated c.loop-left.lines.items))
    ∙ ap (λ ls. map stated c.loop-left.lines.items ++ ls) (sym (ap (λ o. statements_left outside c.loop-left.number (option_copied o)) c.in_default.is ∙ none_left c.loop-left.number))
    ∙ c.loop-left.invariant
