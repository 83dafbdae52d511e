use Rattle.std.proofs.Common.{◌≡◌, ◌++◌, length}
use Rattle.mk_wildcards.specs.Found.{line_of}
use Rattle.mk_eval.specs.Output.{World}
use Rattle.mk_eval.proofs.listed.line_of.Given as goal

abbrev pub invariant-loop-word : goal.invariant-loop-word
invariant-loop-word g l = record {
  line : (world : World) → g.I.Includes.allows l.includes world → l.line.items ++ line_of world.folders l.rest ≡ line_of world.folders l.text;
  grows : (world : World) → g.I.Includes.allows l.includes world → g.I.Includes.allows l.initial.includes world;
}

abbrev pub decreases-loop-word : goal.decreases-loop-word
decreases-loop-word g l = length l.rest
