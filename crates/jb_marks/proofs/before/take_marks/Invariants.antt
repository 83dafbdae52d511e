use Rattle.jb_marks.specs.Before.{IsTaken}
use Rattle.jb_marks.proofs.EachLemmas.{IsSoFar}
use Rattle.jb_marks.proofs.before.take_marks.Given as goal

abbrev pub invariant-loop-name : goal.invariant-loop-name
invariant-loop-name g l = IsSoFar (IsTaken (g.P.Sights.told l.place) (g.E.Earlier.said l.run) l.tick) l.names l.name-iterator l.marks.items
