use Rattle.std.proofs.Common.{◌≡◌, Some, Ok, sym, ap, ◌∙◌, subst}
use Rattle.mk_conditionals.specs.Machine.{Answered}
use Rattle.mk_conditionals.specs.Spelled.{condition_of, with_conditions}
use Rattle.mk_conditionals.specs.declared.directive.Directive.TheVariants as directive
use Rattle.mk_variables.specs.Table.{table_of}
use Rattle.mk_taken.specs.Reading.{Tests, Turns}
use Rattle.mk_taken.proofs.ReadingLemmas.{turns}
use Rattle.mk_taken.proofs.directives.turn.Goals as goal

pub returns-in_ok-turn_if-in-Turns-Some-clause-told : goal.returns-in_ok-turn_if-in-Turns-Some-clause-told
returns-in_ok-turn_if-in-Turns-Some-clause-told g c = λ w ok.
    let table = table_of c.args.table.now in
    let test = condition_of c.in-Turns-Some.test in
    let holds = c.in_ok-holds-in-Turns-Some.holds in
    let test_is : c.in-Turns-Some.field-0 ≡ Some c.in-Turns-Some.test = rw c.in-Turns-Some.is at c.in-Turns-Some.field-0-is in
    let is : c.args.directive ≡ directive.Turns (Some c.in-Turns-Some.test) = c.in-Turns-Some.is ∙ ap directive.Turns test_is in
    subst (λ d. Turns w table c.args.nest.now c.args.number (with_conditions d) (Ok c.turn_if.new.self)) (sym is)
    (turns w table c.args.nest.now c.args.number test holds (Ok c.turn_if.new.self)
    (subst (λ t. Answered (Tests w table) t tt test holds) c.wants_test.ensures (c.in_ok-holds-in-Turns-Some.ensures.told w ok))
    c.in_ok-turn_if-in-Turns-Some.ensures)
