use Rattle.std.proofs.Common.{arith}
use Rattle.st_file.proofs.CountLemmas.{none_more}
use Rattle.st_recovery.proofs.StoredLemmas.{throughout_same}
use Rattle.st_recovery.proofs.opening.find.Goals as goal

pub returns-clause-any_moment : goal.returns-clause-any_moment
returns-clause-any_moment g c = λ honest. throughout_same (c.choose_from_in.ensures.moments honest) (c.settle_both.ensures.any_moment honest)

pub returns-clause-chosen : goal.returns-clause-chosen
returns-clause-chosen g c = λ honest. rw (c.settle_both.ensures.seen honest) at (c.choose_from_in.ensures.chosen honest)

pub returns-clause-void : goal.returns-clause-void
returns-clause-void g c = λ honest. rw (c.settle_both.ensures.seen honest) at (c.choose_from_in.ensures.void honest)

pub returns-clause-refused : goal.returns-clause-refused
returns-clause-refused g c = λ honest. rw (c.settle_both.ensures.seen honest) at (c.choose_from_in.ensures.refused honest)

-- ---- reads leave no moment

pub returns-clause-calls : goal.returns-clause-calls
returns-clause-calls g c = λ honest. omega (arith, c.settle_both.ensures.calls honest, none_more (c.choose_from_in.ensures.moments honest))

-- ---- memory is wanted for bytes

pub returns-clause-memory : goal.returns-clause-memory
returns-clause-memory g c = λ honest. rw (c.settle_both.ensures.seen honest) at (c.choose_from_in.ensures.memory honest)
