use Rattle.std.proofs.Common.{map}
use Rattle.mk_plan.proofs.PartLemmas.{LinesSoFar, NoneSoFar}
use Rattle.mk_plan.proofs.recipe.lines_of.Given as goal

abbrev pub invariant-loop-line : goal.invariant-loop-line
invariant-loop-line l = record {
  lines : LinesSoFar l.graph l.marks l.node (map (λ line. line.now) l.recipe) l.line-index l.lines.items;
  faults : NoneSoFar l.graph l.marks l.node (map (λ line. line.now) l.recipe) l.line-index;
}
