use Rattle.std.proofs.Common.{◌≡◌, ◌++◌}
use Rattle.st_answers.specs.Lines.{lines}
use Rattle.st_answers.proofs.line_text.append_lines.Given as goal

abbrev pub invariant-loop-string : goal.invariant-loop-string
invariant-loop-string l = l.text.items ++ lines l.string-iterator ≡ l.fn.text.items ++ lines l.fn.strings
