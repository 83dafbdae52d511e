use Rattle.std.proofs.Common.{◌≡◌, ◌++◌}
use Rattle.mk_eval.specs.Output.{World}
use Rattle.mk_eval.specs.Listed.{stepped}
use Rattle.mk_eval.proofs.listed.step.Given as goal

abbrev pub invariant-loop-way : goal.invariant-loop-way
invariant-loop-way g l = record {
  stepped : (world : World) → g.I.Includes.allows l.includes world
      → l.next ++ stepped world.folders l.is_last l.part l.way-iterator ≡ stepped world.folders l.is_last l.part l.ways;
  grows : (world : World) → g.I.Includes.allows l.includes world → g.I.Includes.allows l.initial.includes world;
}
