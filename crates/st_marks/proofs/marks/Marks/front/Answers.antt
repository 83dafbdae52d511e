use Rattle.std.proofs.Common.{arith}
use Rattle.st_marks.proofs.PartLemmas.{front_of}
use Rattle.st_marks.proofs.TextLemmas.{length-marks_in}
use Rattle.st_marks.proofs.marks.Marks.front.Goals as goal

pub returns : goal.returns
returns c =
    let fits = rw (← c.self.view_is) at c.requires in
    rw (← c.self.view_is)
    (front_of c.args.wanted c.self.inside.count c.self.inside.bytes.now (omega (arith, fits, length-marks_in c.self.inside.count c.self.inside.bytes.now)))
