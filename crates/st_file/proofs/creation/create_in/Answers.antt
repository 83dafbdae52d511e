use Rattle.std.proofs.Common.{◌<◌, ◌^◌, arith}
use Rattle.st_file.proofs.CreatedLemmas.{then_new, created_by}
use Rattle.st_file.proofs.creation.create_in.Goals as goal

pub returns-in_err-append_gated-clause-any_moment : goal.returns-in_err-append_gated-clause-any_moment
returns-in_err-append_gated-clause-any_moment g c = λ honest.
    let fits : c.args.generation < 2 ^ 64 = omega arith in
    then_new c.requires.some fits c.new_header_in.ensures (c.close_gate.ensures.any_moment honest) (c.append_gated.ensures.any_moment honest)

pub returns-clause-any_moment : goal.returns-clause-any_moment
returns-clause-any_moment g c = λ honest.
    let fits : c.args.generation < 2 ^ 64 = omega arith in
    then_new c.requires.some fits c.new_header_in.ensures (c.close_gate.ensures.any_moment honest) (c.append_gated.ensures.any_moment honest)

pub returns-clause-created : goal.returns-clause-created
returns-clause-created g c = λ honest.
    let fits : c.args.generation < 2 ^ 64 = omega arith in
    created_by c.requires.some fits c.new_header_in.ensures (c.in_ok-append_gated.ensures.opened honest)

pub returns-in_err-close_gate-clause-calls : goal.returns-in_err-close_gate-clause-calls
returns-in_err-close_gate-clause-calls g c = λ honest. omega (arith, c.close_gate.ensures.calls honest)

pub returns-in_err-append_gated-clause-calls : goal.returns-in_err-append_gated-clause-calls
returns-in_err-append_gated-clause-calls g c = λ honest. omega (arith, c.close_gate.ensures.calls honest, c.append_gated.ensures.calls honest)

pub returns-clause-calls : goal.returns-clause-calls
returns-clause-calls g c = λ honest. omega (arith, c.close_gate.ensures.calls honest, c.append_gated.ensures.calls honest)
