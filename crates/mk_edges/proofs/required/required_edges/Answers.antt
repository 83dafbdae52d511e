use Rattle.std.proofs.Common.{sym, ◌∙◌}
use Rattle.mk_edges.proofs.RequiredLemmas.{are_required, none_required}
use Rattle.mk_edges.proofs.required.required_edges.Goals as goal

pub returns-then-not-any_has_others-clause-required : goal.returns-then-not-any_has_others-clause-required
returns-then-not-any_has_others-clause-required c = λ inputs described are inside.
    none_required inputs c.args.names.now c.args.hard.now c.args.known.now c.requires.known described are c.requires.closed
    (sym c.any_has_others.ensures ∙ c.if-not-any_has_others.true)

pub returns-clause-required : goal.returns-clause-required
returns-clause-required c = λ inputs described are inside.
    let of = c.in_ok-required_rows.ensures in
    are_required inputs c.args.names.now c.args.hard.now c.args.known.now c.requires.known described are inside c.in_ok-required_rows.field-0 of.count of.closed of.rows
