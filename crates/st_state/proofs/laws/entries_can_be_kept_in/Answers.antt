use Rattle.st_state.proofs.KeepableLemmas.{kept_in_empty_in, kept_step_in, kept_replay_in}
use Rattle.st_state.proofs.laws.entries_can_be_kept_in.Goals as goal

pub returns-clause-empty : goal.returns-clause-empty
returns-clause-empty c = kept_in_empty_in

pub returns-clause-one : goal.returns-clause-one
returns-clause-one c = kept_step_in

pub returns-clause-all : goal.returns-clause-all
returns-clause-all c = kept_replay_in
