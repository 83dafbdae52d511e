use Rattle.std.proofs.Common.{◌∙◌, drop, ap, List}
use Rattle.std.proofs.lemmas.List.{drop-drop}
use Rattle.st_marks.specs.declared.mark.Mark.{Mark}
use Rattle.st_marks.proofs.marks.behind.Goals as goal

pub loop-preserved : goal.loop-preserved
loop-preserved c = c.first-mark.ensures.left ∙ ap (λ (ms : List Mark). drop 1 ms) c.loop.invariant ∙ drop-drop 1 c.loop.counter c.args.marks
