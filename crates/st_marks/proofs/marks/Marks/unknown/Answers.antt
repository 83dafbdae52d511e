use Rattle.st_marks.proofs.TextLemmas.{marks_in-nothing}
use Rattle.st_marks.proofs.marks.Marks.unknown.Goals as goal

pub returns : goal.returns
returns c = marks_in-nothing c.args.count
