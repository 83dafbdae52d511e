use Rattle.mk_macros.specs.Expansion.{Meanings}
use Rattle.mk_plan.proofs.KeptLemmas.{GivesSoFar}
use Rattle.mk_plan.proofs.simple.gives_simply.Given as goal

abbrev pub invariant-loop-raw : goal.invariant-loop-raw
invariant-loop-raw l = (meanings : Meanings) → GivesSoFar meanings l.recipe l.fn.commands l.raw-index l.left
