use Rattle.std.proofs.Common.{◌∷◌}
use Rattle.std.specs.List.{AllByRecursion}
use Rattle.jb_recipe.proofs.place.sync_made.Given as goal

-- once those are on the disk that are left, all are
abbrev pub invariant-loop-other : goal.invariant-loop-other
invariant-loop-other g l = AllByRecursion (g.P.Place.synced l.place) l.other-iterator → AllByRecursion (g.P.Place.synced l.place) (l.target ∷ l.others)
