use Rattle.std.proofs.Common.{◌∙◌, Some, option_copied, ap}
use Rattle.mk_lines.specs.Lines.{joined_lines}
use Rattle.mk_recipe.specs.Report.{names_in, mentioned, names_on}
use Rattle.mk_recipe.proofs.AnswerLemmas.{so_far_more, so_far_all, mentioned-cons, mentioned-none}
use Rattle.mk_recipe.proofs.report.read_lines.Goals as goal

pub loop-left-preserved : goal.loop-left-preserved
loop-left-preserved c =
    let profile = c.args.profile in
    let target = c.args.target.now in
    let left = option_copied c.loop-left.left in
    let after = option_copied c.in_ok-line.after in
    let names = names_in profile c.names_on.result.now in
    let next = mentioned-cons profile target c.in_ok-line.line.items names left after (Some c.in-Some.bytes.now) (ap option_copied c.in-Some.is) c.in_ok-line.ensures.line
    (c.names_on.ensures ∙ ap (names_on profile target) c.as_slice.ensures.value) in
    so_far_more (mentioned profile target (joined_lines (Some c.args.report.now))) (mentioned profile target (joined_lines left)) names (mentioned profile target (joined_lines after))
    c.args.seen.now c.args.hidden.now c.loop-left.seen c.loop-left.hidden c.read_names.new.seen c.read_names.new.hidden c.loop-left.left_out c.in_ok-is_left_out.is_left_out
    next c.loop-left.invariant c.in_ok-is_left_out.ensures.ok

pub returns-clause-ok : goal.returns-clause-ok
returns-clause-ok c =
    let profile = c.args.profile in
    let target = c.args.target.now in
    so_far_all (mentioned profile target (joined_lines (Some c.args.report.now))) (mentioned profile target (joined_lines (option_copied c.loop-left.left)))
    c.args.seen.now c.args.hidden.now c.loop-left.seen c.loop-left.hidden c.loop-left.left_out (mentioned-none profile target c.loop-left.left c.in_default.is) c.loop-left.invariant
