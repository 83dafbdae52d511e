use Rattle.std.proofs.Common.{option_copied}
use Rattle.mk_lines.specs.Lines.{joined_lines, size_left}
use Rattle.mk_recipe.specs.Report.{mentioned}
use Rattle.mk_recipe.proofs.AnswerLemmas.{ReadsSoFar}
use Rattle.mk_recipe.proofs.report.read_lines.Given as goal

abbrev pub invariant-loop-left : goal.invariant-loop-left
invariant-loop-left l =
    ReadsSoFar (mentioned l.profile l.target (joined_lines (option_copied l.initial.left))) (mentioned l.profile l.target (joined_lines (option_copied l.left)))
    l.initial.seen l.initial.hidden l.seen l.hidden l.left_out

abbrev pub decreases-loop-left : goal.decreases-loop-left
decreases-loop-left l = size_left (option_copied l.left)
