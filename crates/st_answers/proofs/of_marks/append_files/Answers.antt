use Rattle.std.proofs.Common.{◌++◌, ◌∙◌, ap}
use Rattle.std.specs.List.{flat_map}
use Rattle.st_answers.specs.Marks.{mark_row}
use Rattle.st_answers.proofs.Loops.{moved}
use Rattle.st_answers.proofs.of_marks.append_files.Goals as goal

pub loop-mark-preserved : goal.loop-mark-preserved
loop-mark-preserved c =
    ap (λ t. t ++ flat_map mark_row c.next.new.self) c.in_ok-append_mark.ensures
    ∙ moved mark_row _ _ _ _ _ c.in-Some.mark c.loop-mark.invariant c.in-Some.ensures.steps
