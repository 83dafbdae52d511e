use Rattle.bd_flusher.proofs.WritableLemmas.{all_good, all_later}
use Rattle.bd_flusher.proofs.site.records.Records.write_to.Goals as goal

-- what a commit asks of the held records
pub add-requires-clause-good : goal.add-requires-clause-good
add-requires-clause-good g c = rw c.deref.ensures.value (all_good _ _ c.requires.writable)

pub add-requires-clause-later : goal.add-requires-clause-later
add-requires-clause-later g c = rw c.deref.ensures.value (all_later _ _ c.requires.writable)

-- ---- it was refused

pub returns-in_err-add-clause-any_moment : goal.returns-in_err-add-clause-any_moment
returns-in_err-add-clause-any_moment g c = λ honest alive. rw c.deref.ensures.value at (c.add.ensures.any_moment honest alive)

-- ---- what was held is told

pub returns-clause-any_moment : goal.returns-clause-any_moment
returns-clause-any_moment g c = λ honest alive. rw c.deref.ensures.value at (c.add.ensures.any_moment honest alive)

pub returns-clause-behind : goal.returns-clause-behind
returns-clause-behind g c = λ honest before holds. rw c.deref.ensures.value at (c.in_ok-add.ensures.held honest before holds)
