use Rattle.std.proofs.Common.{◌∷◌, ◌∙◌, ap, Some, option_copied}
use Rattle.mk_profile.specs.Profile.{is_wide}
use Rattle.mk_lines.specs.Lines.{physical, logical_lines}
use Rattle.mk_lines.proofs.LinesLemmas.{logical_lines-cons, logical_line-is}
use Rattle.mk_lines.proofs.lines.next_logical_line.Goals as goal

pub returns-clause-line : goal.returns-clause-line
returns-clause-line c =
    let first = physical c.next_line.result.0 in
    logical_lines-cons (is_wide c.args.profile) c.args.number c.in_ok-text.next_number (Some c.args.bytes.now) (option_copied c.in_ok-text.left) first _ c.next_line.ensures.lines c.in_ok-text.ensures.left c.in_ok-text.ensures.number
    ∙ ap (λ l. l ∷ logical_lines (is_wide c.args.profile) c.in_ok-text.next_number (option_copied c.in_ok-text.left)) (logical_line-is (is_wide c.args.profile) c.args.number _ _ _ _ c.begins_with-is_recipe.ensures c.in_ok-text.ensures.text)
