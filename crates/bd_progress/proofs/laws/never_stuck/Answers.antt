use Rattle.bd_progress.proofs.StuckLemmas.{never_stuck}
use Rattle.bd_progress.proofs.laws.never_stuck.Goals as goal

pub returns : goal.returns
returns c = never_stuck
