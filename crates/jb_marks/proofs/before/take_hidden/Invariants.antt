use Rattle.std.proofs.Common.{drop}
use Rattle.jb_marks.specs.Before.{IsKnown}
use Rattle.jb_marks.proofs.EachLemmas.{IsSoFar}
use Rattle.jb_marks.proofs.before.take_hidden.Given as goal

abbrev pub invariant-loop-recorded : goal.invariant-loop-recorded
invariant-loop-recorded g l =
    IsSoFar (IsKnown (g.P.Sights.told l.place) (g.E.Earlier.said l.run) l.tick) l.names (drop l.recorded-index l.names) l.known.items
