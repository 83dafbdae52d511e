use Rattle.std.proofs.Common.{◌≡◌, ◌+◌, ◌*◌, length}
use Rattle.std.specs.Vec.Iter.{into_iter_items, into_iter_len}
use Rattle.byte_strings.specs.Blanks.{words}
use Rattle.mk_macros.specs.Ranks.{defined_by}
use Rattle.mk_eval.specs.Output.{World}
use Rattle.mk_eval.specs.Makefile.{behind, StatementItems, IncludedItems}
use Rattle.mk_eval.proofs.MakefileLemmas.{Reaches}
use Rattle.mk_eval.proofs.makefile.+evaluating.Given as goal

abbrev pub decreases-evaluate_text : goal.decreases-evaluate_text
decreases-evaluate_text g l = 5 * l.levels + 4

abbrev pub decreases-evaluate_all : goal.decreases-evaluate_all
decreases-evaluate_all g l = 5 * l.levels + 3

abbrev pub decreases-evaluate_line : goal.decreases-evaluate_line
decreases-evaluate_line g l = 5 * l.levels + 2

abbrev pub decreases-evaluate_each : goal.decreases-evaluate_each
decreases-evaluate_each g l = 5 * l.levels + 1

abbrev pub decreases-evaluate_included : goal.decreases-evaluate_included
decreases-evaluate_included g l = 5 * l.levels

abbrev pub invariant-evaluate_each-loop-name : goal.invariant-evaluate_each-loop-name
invariant-evaluate_each-loop-name g l = record {
  gathered : (world : World) → g.I.Includes.allows l.includes world
      → Reaches behind (IncludedItems world l.levels l.file l.include) (defined_by l.initial.macros) (words l.names) (defined_by l.macros) l.items.items (words l.rest);
  defined : defined_by l.macros ≡ behind (defined_by l.initial.macros) l.items.items;
  grows : (world : World) → g.I.Includes.allows l.includes world → g.I.Includes.allows l.initial.includes world;
}

abbrev pub decreases-evaluate_each-loop-name : goal.decreases-evaluate_each-loop-name
decreases-evaluate_each-loop-name g l = length (words l.rest)

abbrev pub invariant-evaluate_all-loop-statement : goal.invariant-evaluate_all-loop-statement
invariant-evaluate_all-loop-statement g l = record {
  left : into_iter_len l.statement-iterator ≡ length (into_iter_items l.statement-iterator);
  gathered : (world : World) → g.I.Includes.allows l.includes world
      → Reaches behind (StatementItems world (IncludedItems world l.levels l.file) l.file) (defined_by l.initial.macros) l.fn.statements.items (defined_by l.macros) l.items.items (into_iter_items l.statement-iterator);
  defined : defined_by l.macros ≡ behind (defined_by l.initial.macros) l.items.items;
  grows : (world : World) → g.I.Includes.allows l.includes world → g.I.Includes.allows l.initial.includes world;
}
