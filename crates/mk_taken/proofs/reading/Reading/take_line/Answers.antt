use Rattle.mk_statements.specs.Reading.{stated}
use Rattle.mk_variables.specs.Table.{table_of}
use Rattle.mk_taken.specs.Shown.{place_of}
use Rattle.mk_taken.proofs.ReadingLemmas.{stopped}
use Rattle.mk_taken.proofs.reading.Reading.take_line.Goals as goal

pub returns-in-Err-clause-refused : goal.returns-in-Err-clause-refused
returns-in-Err-clause-refused g c = λ w ok more.
    stopped w (place_of (table_of c.args.table.now) c.args.self.now) (stated c.args.line.now) c.in-Err.why (c.in-Err.ensures.refused w ok) more
