use Rattle.std.proofs.Common.{inl}
use Rattle.st_compaction.proofs.ClearingLemmas.{side_so_far, side_goes_on, void_or_open}
use Rattle.st_compaction.proofs.rewriting.publish.Goals as goal

pub returns-in_err-close_gate-clause-any_moment : goal.returns-in_err-close_gate-clause-any_moment
returns-in_err-close_gate-clause-any_moment g c = λ honest. side_so_far (c.close_gate.ensures.any_moment honest) (λ x void. inl void)

pub returns-in_err-append_gated-clause-any_moment : goal.returns-in_err-append_gated-clause-any_moment
returns-in_err-append_gated-clause-any_moment g c = λ honest.
    side_goes_on (c.close_gate.ensures.any_moment honest) (c.append_gated.ensures.any_moment honest) (λ x void. inl void) (void_or_open c.args.text.now)

pub returns-clause-any_moment : goal.returns-clause-any_moment
returns-clause-any_moment g c = λ honest.
    side_goes_on (c.close_gate.ensures.any_moment honest) (c.append_gated.ensures.any_moment honest) (λ x void. inl void) (void_or_open c.args.text.now)
