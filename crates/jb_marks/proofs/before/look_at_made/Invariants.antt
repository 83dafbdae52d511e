use Rattle.std.proofs.Common.{◌∷◌}
use Rattle.jb_marks.proofs.EachLemmas.{IsSoFar}
use Rattle.jb_marks.proofs.before.look_at_made.Given as goal

abbrev pub invariant-loop-other : goal.invariant-loop-other
invariant-loop-other g l = IsSoFar (g.P.Sights.told l.place) (l.target ∷ l.others) l.other-iterator l.sights.items
