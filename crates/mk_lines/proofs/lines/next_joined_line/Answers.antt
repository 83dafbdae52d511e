use Rattle.std.proofs.Common.{◌≡◌, ◌++◌, ◌∙◌, false, ap, flat_map, Some, option_copied}
use Rattle.mk_lines.specs.Lines.{lines_left, physical, rest_of_group, opening, joint}
use Rattle.mk_lines.proofs.JoinedLemmas.{joined_plainly, joined_lines-cons}
use Rattle.mk_lines.proofs.lines.next_joined_line.Goals as goal

pub returns-clause-line : goal.returns-clause-line
returns-clause-line c =
    let first = physical c.next_line.result.0 in
    let others = rest_of_group first (lines_left (option_copied c.next_line.result.1)) in
    let front : c.in_ok-text.text.items ≡ opening false first = c.in_ok-text.ensures.items ∙ c.opening.ensures in
    let text : c.join_rest.new.text.items ≡ opening false first ++ flat_map (joint false) others =
    c.in_ok-left.ensures.text ∙ joined_plainly c.in_ok-text.text.items others ∙ ap (λ xs. xs ++ flat_map (joint false) others) front in
    joined_lines-cons (Some c.args.bytes.now) (option_copied c.in_ok-left.left) first _ _ c.next_line.ensures.lines c.in_ok-left.ensures.left text
