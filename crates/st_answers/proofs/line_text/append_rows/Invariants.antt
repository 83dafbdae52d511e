use Rattle.std.proofs.Common.{◌≡◌, ◌++◌}
use Rattle.st_answers.specs.Lines.{rows}
use Rattle.st_answers.proofs.line_text.append_rows.Given as goal

abbrev pub invariant-loop-name : goal.invariant-loop-name
invariant-loop-name l = l.text.items ++ rows l.word l.name-iterator ≡ l.fn.text.items ++ rows l.fn.word l.fn.names
