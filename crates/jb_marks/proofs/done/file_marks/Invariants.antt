use Rattle.std.proofs.Common.{drop}
use Rattle.jb_marks.specs.Single.{IsMarkOf}
use Rattle.jb_marks.proofs.EachLemmas.{IsSoFar}
use Rattle.jb_marks.proofs.done.file_marks.Given as goal

abbrev pub invariant-loop-sight : goal.invariant-loop-sight
invariant-loop-sight l = IsSoFar IsMarkOf l.sights (drop l.sight-index l.sights) l.marks.items
