use Rattle.std.proofs.Common.{◌++◌, ◌∙◌, ap}
use Rattle.st_answers.specs.Lines.{line, lines}
use Rattle.st_answers.proofs.Loops.{moved}
use Rattle.st_answers.proofs.line_text.append_lines.Goals as goal

pub loop-string-preserved : goal.loop-string-preserved
loop-string-preserved c =
    ap (λ t. t ++ lines c.next.new.self) c.in_ok-append_line.ensures
    ∙ moved line _ _ _ _ _ c.in-Some.string.now c.loop-string.invariant c.in-Some.ensures.steps
