use Rattle.std.proofs.Common.{sym}
use Rattle.st_marks.proofs.TextLemmas.{length-marks_in}
use Rattle.st_marks.proofs.marks.Marks.len.Goals as goal

pub returns : goal.returns
returns c = rw (← c.self.view_is) (sym (length-marks_in c.self.inside.count c.self.inside.bytes.now))
