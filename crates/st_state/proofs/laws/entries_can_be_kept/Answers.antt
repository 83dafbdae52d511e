use Rattle.st_state.proofs.KeepableLemmas.{kept_in_empty, kept_step, kept_replay}
use Rattle.st_state.proofs.laws.entries_can_be_kept.Goals as goal

pub returns-clause-empty : goal.returns-clause-empty
returns-clause-empty c = kept_in_empty

pub returns-clause-one : goal.returns-clause-one
returns-clause-one c = kept_step

pub returns-clause-all : goal.returns-clause-all
returns-clause-all c = kept_replay
