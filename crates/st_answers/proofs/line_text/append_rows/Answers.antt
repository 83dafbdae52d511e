use Rattle.std.proofs.Common.{◌++◌, ◌∙◌, ap}
use Rattle.st_answers.specs.Lines.{row, rows}
use Rattle.st_answers.proofs.Loops.{moved}
use Rattle.st_answers.proofs.line_text.append_rows.Goals as goal

pub loop-name-preserved : goal.loop-name-preserved
loop-name-preserved c =
    ap (λ t. t ++ rows c.args.word.now c.next.new.self) c.in_ok-append_row.ensures
    ∙ moved (row c.args.word.now) _ _ _ _ _ c.in-Some.name.now c.loop-name.invariant c.in-Some.ensures.steps
