use Rattle.std.proofs.Common.{length}
use Rattle.mk_functions.specs.Values.{Answers}
use Rattle.mk_target_lines.proofs.PartLemmas.{IsLeft}
use Rattle.mk_target_lines.proofs.parts.parted.Given as goal

abbrev pub invariant-loop-word : goal.invariant-loop-word
invariant-loop-word g l = record {
  leads : (w : Answers) → g.O.Outside.allows l.outside w → IsLeft w (g.V.Definitions.variables l.variables) l.has_recipe l.text l.names.items l.rest;
  narrows : (w : Answers) → g.O.Outside.allows l.outside w → g.O.Outside.allows l.fn.outside w;
}

abbrev pub decreases-loop-word : goal.decreases-loop-word
decreases-loop-word g l = length l.rest
