use Rattle.std.proofs.Common.{◌≡◌, [], length, flat_map}
use Rattle.mk_wildcards.specs.Found.{found, parts}
use Rattle.mk_eval.specs.Output.{World}
use Rattle.mk_eval.proofs.listed.found.Given as goal

abbrev pub invariant-loop-part : goal.invariant-loop-part
invariant-loop-part g l = record {
  found : (world : World) → g.I.Includes.allows l.includes world
      → flat_map (λ way. found world.folders way (parts l.left)) l.ways ≡ found world.folders [] (parts l.path);
  grows : (world : World) → g.I.Includes.allows l.includes world → g.I.Includes.allows l.initial.includes world;
}

abbrev pub decreases-loop-part : goal.decreases-loop-part
decreases-loop-part g l = length l.left
