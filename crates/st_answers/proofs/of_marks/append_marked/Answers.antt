use Rattle.std.proofs.Common.{◌++◌, ◌∙◌, ap}
use Rattle.st_answers.specs.Marks.{marked_rows}
use Rattle.st_answers.proofs.MarkLemmas.{marked_moved}
use Rattle.st_answers.proofs.of_marks.append_marked.Goals as goal

pub loop-name-preserved : goal.loop-name-preserved
loop-name-preserved c =
    ap (λ t. t ++ marked_rows c.args.word.now c.next.new.self c.first-mark.new.self) c.in_ok-append_name.ensures
    ∙ marked_moved c.args.word.now _ _ _ _ _ _ c.in-Some.name.now _ c.loop-name.invariant c.in-Some.ensures.steps c.first-mark.ensures.first c.first-mark.ensures.left
