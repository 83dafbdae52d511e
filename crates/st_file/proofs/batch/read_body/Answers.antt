use Rattle.std.proofs.Common.{rules, arith}
use Rattle.st_state.proofs.StateLemmas.{on_err}
use Rattle.st_file.proofs.BatchLemmas.{HandsOn-more, no_body_by_none, no_body_by_kept, is_whole, target_of_front, comes_to_target}
use Rattle.st_file.proofs.batch.read_body.Goals as goal

pub returns-in_default-clause-whole : goal.returns-in_default-clause-whole
returns-in_default-clause-whole g c =
    let at_none = rw c.in_default.is at c.in_ok-record.ensures.none in
    no_body_by_none _ _ _ _ _ _ _ c.loop.invariant.read c.loop-test.true at_none

pub returns-then-not-is_allowed-clause-whole : goal.returns-then-not-is_allowed-clause-whole
returns-then-not-is_allowed-clause-whole g c =
    let at_some = rw c.in-Some.is at c.in_ok-record.ensures.found in
    no_body_by_kept _ _ _ _ _ _ _ c.in-Some.record c.in-Some.behind.now c.loop.invariant.read c.loop-test.true at_some.0 at_some.1 (search rules)

pub loop-preserved : goal.loop-preserved
loop-preserved g c =
    let at_some = rw c.in-Some.is at c.in_ok-record.ensures.found in
    HandsOn-more _ _ _ _ _ _ _ _ _ c.in-Some.behind.now c.in-Some.record c.loop.invariant at_some.0 (search rules) at_some.1 (search rules)

pub returns-clause-whole : goal.returns-clause-whole
returns-clause-whole g c = rw c.is_empty.ensures (is_whole _ _ _ _ _ _ _ _ _ c.loop.invariant (omega arith))

pub returns-in_err-record-clause-memory : goal.returns-in_err-record-clause-memory
returns-in_err-record-clause-memory g c =
    on_err _ (comes_to_target _ _ _ _ _ _ _ _ _ c.loop.invariant c.loop-test.true c.in_err-record.ensures.memory)

pub returns-in_err-take-clause-memory : goal.returns-in_err-take-clause-memory
returns-in_err-take-clause-memory g c =
    let at_some = rw c.in-Some.is at c.in_ok-record.ensures.found in
    on_err _ (comes_to_target _ _ _ _ _ _ _ _ _ c.loop.invariant c.loop-test.true (target_of_front _ _ _ _ at_some.0 at_some.1))
