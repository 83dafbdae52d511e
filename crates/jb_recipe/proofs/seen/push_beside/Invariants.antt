use Rattle.std.proofs.Common.{◌≡◌, ◌++◌, map, drop}
use Rattle.jb_recipe.specs.Seen.{sight_from}
use Rattle.jb_recipe.proofs.seen.push_beside.Given as goal

-- what there is, and what the others come to
abbrev pub invariant-loop-look : goal.invariant-loop-look
invariant-loop-look l = l.sights.items ++ map sight_from (drop l.look-index l.looks) ≡ l.fn.sights.items ++ map sight_from l.looks
