use Rattle.std.proofs.Common.{sym, ◌∙◌}
use Rattle.mk_rules.proofs.RowLemmas.{with_number, without_number}
use Rattle.mk_rules.proofs.mentioned.has_named.Goals as goal

pub returns-in-Some : goal.returns-in-Some
returns-in-Some c = λ row.
    let is = c.in-Some.ensures.number in
    c.has.ensures ∙ with_number c.args.names.now c.args.numbers.now c.args.name.now c.in-Some.number row is.0 is.1

pub returns-in-None : goal.returns-in-None
returns-in-None c = λ row. sym (without_number c.args.names.now c.args.numbers.now c.args.name.now row (sym c.in-None.ensures.none))
