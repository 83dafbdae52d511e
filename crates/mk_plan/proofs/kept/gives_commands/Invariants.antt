use Rattle.mk_macros.specs.Ranks.{defined_by, meanings_of}
use Rattle.mk_plan.proofs.KeptLemmas.{GivesSoFar}
use Rattle.mk_plan.proofs.kept.gives_commands.Given as goal

abbrev pub invariant-loop-raw : goal.invariant-loop-raw
invariant-loop-raw l = GivesSoFar (meanings_of (defined_by l.macros) l.dynamic) l.recipe l.fn.commands l.raw-index l.left
