use Rattle.std.proofs.Common.{ℕ, List, sym, subst, inl}
use Rattle.st_disk.specs.declared.which.Which.{Which}
use Rattle.st_recovery.specs.Stored.{GivesWayIn}
use Rattle.st_compaction.proofs.ClearingLemmas.{side_still, side_goes_on, gives_way_first}
use Rattle.st_compaction.proofs.rewriting.retire.Goals as goal

pub returns-in_err-length-clause-any_moment : goal.returns-in_err-length-clause-any_moment
returns-in_err-length-clause-any_moment g c = λ honest newest generation gives. side_still c.args.side (gives_way_first newest generation gives (c.requires honest)) (c.len.ensures.moments honest)

pub returns-in_err-close_first_gate-clause-any_moment : goal.returns-in_err-close_first_gate-clause-any_moment
returns-in_err-close_first_gate-clause-any_moment g c = λ honest newest generation gives.
    let still = subst (λ (f : Which → List ℕ). GivesWayIn newest generation (f c.args.side)) (sym (c.len.ensures.seen honest)) gives in
    side_goes_on (side_still c.args.side (gives_way_first newest generation gives (c.requires honest)) (c.len.ensures.moments honest)) (c.close_first_gate.ensures.any_moment honest newest generation still) (λ x old. old) (λ x old. old)

pub returns-in_err-cut_behind_gate-clause-any_moment : goal.returns-in_err-cut_behind_gate-clause-any_moment
returns-in_err-cut_behind_gate-clause-any_moment g c = λ honest newest generation gives.
    let still = subst (λ (f : Which → List ℕ). GivesWayIn newest generation (f c.args.side)) (sym (c.len.ensures.seen honest)) gives in
    let closed = side_goes_on (side_still c.args.side (gives_way_first newest generation gives (c.requires honest)) (c.len.ensures.moments honest)) (c.close_first_gate.ensures.any_moment honest newest generation still) (λ x old. old) (λ x old. old) in
    side_goes_on closed (c.cut_behind_gate.ensures.any_moment honest) (λ x old. old) (λ x void. inl void)

pub returns-clause-any_moment : goal.returns-clause-any_moment
returns-clause-any_moment g c = λ honest newest generation gives.
    let still = subst (λ (f : Which → List ℕ). GivesWayIn newest generation (f c.args.side)) (sym (c.len.ensures.seen honest)) gives in
    let closed = side_goes_on (side_still c.args.side (gives_way_first newest generation gives (c.requires honest)) (c.len.ensures.moments honest)) (c.close_first_gate.ensures.any_moment honest newest generation still) (λ x old. old) (λ x old. old) in
    side_goes_on closed (c.cut_behind_gate.ensures.any_moment honest) (λ x old. old) (λ x void. inl void)
