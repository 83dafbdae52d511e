use Rattle.std.proofs.Common.{◌≡◌, ◌++◌}
use Rattle.std.specs.List.{flat_map}
use Rattle.st_answers.specs.Marks.{mark_row}
use Rattle.st_answers.proofs.of_marks.append_files.Given as goal

abbrev pub invariant-loop-mark : goal.invariant-loop-mark
invariant-loop-mark l = l.text.items ++ flat_map mark_row l.mark-iterator ≡ l.fn.text.items ++ flat_map mark_row l.fn.marks
