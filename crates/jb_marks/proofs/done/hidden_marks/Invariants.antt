use Rattle.jb_marks.specs.Done.{IsReported}
use Rattle.jb_marks.proofs.EachLemmas.{IsSoFar}
use Rattle.jb_marks.proofs.done.hidden_marks.Given as goal

abbrev pub invariant-loop-name : goal.invariant-loop-name
invariant-loop-name g l =
    IsSoFar (IsReported (g.P.Sights.told l.place) (g.E.Earlier.said l.run) l.before) l.reported l.name-iterator l.marks.items
