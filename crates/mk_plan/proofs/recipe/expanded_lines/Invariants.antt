use Rattle.std.proofs.Common.{option_copied}
use Rattle.mk_macros.specs.Ranks.{defined_by, meanings_of}
use Rattle.mk_plan.proofs.RecipeLemmas.{ExpandedSoFar, NoFaultSoFar}
use Rattle.mk_plan.proofs.recipe.expanded_lines.Given as goal

abbrev pub invariant-loop-raw : goal.invariant-loop-raw
invariant-loop-raw l = record {
  lines : ExpandedSoFar (meanings_of (defined_by l.macros) l.dynamic) l.recipe l.raw-index l.lines.items;
  faults : NoFaultSoFar (meanings_of (defined_by l.macros) l.dynamic) (option_copied l.file) l.recipe l.raw-index;
}
