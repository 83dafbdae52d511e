use Rattle.bd_progress.proofs.StuckLemmas.{every_run_ends}
use Rattle.bd_progress.proofs.laws.every_run_ends.Goals as goal

pub returns : goal.returns
returns c = every_run_ends
