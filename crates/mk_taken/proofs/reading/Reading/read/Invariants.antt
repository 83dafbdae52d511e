use Rattle.std.proofs.Common.{drop, length, map}
use Rattle.mk_functions.specs.Values.{Answers}
use Rattle.mk_statements.specs.Reading.{stated}
use Rattle.mk_variables.specs.Table.{table_of}
use Rattle.mk_taken.specs.Place.{Outcome}
use Rattle.mk_taken.specs.Reading.{Reads}
use Rattle.mk_taken.specs.Shown.{place_of}
use Rattle.mk_taken.proofs.reading.Reading.read.Given as goal

abbrev pub invariant-loop-line : goal.invariant-loop-line
invariant-loop-line g l = record {
  leads : (w : Answers) → g.O.Outside.allows l.outside w → (outcome : Outcome) → Reads w (map stated (drop l.place l.lines)) (place_of (table_of l.table) l.self) outcome
      → Reads w (map stated l.lines) (place_of (table_of l.fn.table) l.fn.self) outcome;
  narrows : (w : Answers) → g.O.Outside.allows l.outside w → g.O.Outside.allows l.fn.outside w;
}

abbrev pub decreases-loop-line : goal.decreases-loop-line
decreases-loop-line g l = length (drop l.place l.lines)
