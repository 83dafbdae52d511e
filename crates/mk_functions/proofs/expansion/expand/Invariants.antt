use Rattle.mk_functions.specs.Values.{Answers}
use Rattle.mk_functions.specs.Waiting.{LeadTo}
use Rattle.mk_functions.proofs.expansion.expand.Given as goal

abbrev pub invariant-loop-left : goal.invariant-loop-left
invariant-loop-left g l = record {
  leads : (w : Answers) → g.O.Outside.allows l.outside w → LeadTo w (g.V.Definitions.variables l.variables) l.text l.callers.items l.current;
  narrows : (w : Answers) → g.O.Outside.allows l.outside w → g.O.Outside.allows l.fn.outside w;
}

abbrev pub decreases-loop-left : goal.decreases-loop-left
decreases-loop-left g l = l.left
