use Rattle.std.proofs.Common.{sym, subst}
use Rattle.std.proofs.lemmas.Result.{err_from_is_err_and}
use Rattle.mk_conditionals.specs.Spelled.{with_conditions}
use Rattle.mk_statements.specs.Told.{told_by}
use Rattle.mk_variables.specs.Table.{table_of}
use Rattle.mk_taken.specs.Place.{refuses}
use Rattle.mk_taken.specs.Reading.{Says}
use Rattle.mk_taken.specs.Shown.{place_of, Stops}
use Rattle.mk_taken.specs.declared.fault.Why.TheVariants as why
use Rattle.mk_taken.proofs.ReadingLemmas.{undirected}
use Rattle.mk_taken.proofs.reading.Reading.take_said.Goals as goal

pub returns-in_err-turn-in-Conditional-clause-refused : goal.returns-in_err-turn-in-Conditional-clause-refused
returns-in_err-turn-in-Conditional-clause-refused g c = λ w ok.
    let place = place_of (table_of c.args.table.now) c.args.self.now in
    let none = c.in_err-turn-in-Conditional.field-0.0 in
    let told = err_from_is_err_and c.from_residual.result c.from_residual.ensures.1 in
    rw (told.1, told.2)
    (subst (λ s. Stops (λ it. Says w place c.args.number (told_by s) (refuses it)) (why.Conditional none)) (sym c.in-Conditional.is)
    (undirected w place c.args.number (with_conditions c.in-Conditional.line.directive) none (c.in_err-turn-in-Conditional.ensures.refused w ok)))
