use Rattle.std.proofs.Common.{◌≡◌, ◌++◌}
use Rattle.st_answers.specs.Marks.{marked_rows}
use Rattle.st_answers.proofs.of_marks.append_marked.Given as goal

abbrev pub invariant-loop-name : goal.invariant-loop-name
invariant-loop-name l = l.text.items ++ marked_rows l.word l.name-iterator l.left ≡ l.fn.text.items ++ marked_rows l.fn.word l.fn.names l.fn.marks
