use Rattle.std.proofs.Common.{◌≡◌}
use Rattle.mk_macros.specs.Ranks.{defined_by}
use Rattle.mk_eval.specs.Output.{World}
use Rattle.mk_eval.specs.Makefile.{behind}
use Rattle.dmk_reading.proofs.MakefileLemmas.{AreReadSoFar}
use Rattle.dmk_reading.proofs.makefile.all_items.Given as goal

abbrev pub invariant-loop-name : goal.invariant-loop-name
invariant-loop-name g l = record {
  read : (world : World) → g.I.Includes.allows l.includes world → AreReadSoFar world (defined_by l.initial.macros) l.names l.name-iterator l.items.items;
  defined : defined_by l.macros ≡ behind (defined_by l.initial.macros) l.items.items;
  grows : (world : World) → g.I.Includes.allows l.includes world → g.I.Includes.allows l.initial.includes world;
}
