use Rattle.std.proofs.Common.{map}
use Rattle.mk_functions.specs.Values.{Answers}
use Rattle.mk_variables.specs.Exports.{Told, Passes}
use Rattle.mk_variables.specs.Shown.{shown_entry, shown_passed}
use Rattle.mk_variables.proofs.ExportLemmas.{behind_all}
use Rattle.mk_variables.proofs.table.Table.environment.Given as goal

abbrev pub invariant-loop-name : goal.invariant-loop-name
invariant-loop-name g l = record {
  leads : (w : Answers) → g.O.Outside.allows l.outside w → (told : Told)
      → Passes w (g.V.Definitions.variables l.variables) l.exports_all (map shown_entry l.name-iterator) told
      → Passes w (g.V.Definitions.variables l.variables) l.self.exports_all l.self.entries (behind_all (map shown_passed l.passed.items) told);
  narrows : (w : Answers) → g.O.Outside.allows l.outside w → g.O.Outside.allows l.fn.outside w;
}
