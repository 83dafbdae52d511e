use Rattle.bd_progress.proofs.FallLemmas.{each_move_does_more}
use Rattle.bd_progress.proofs.laws.each_move_does_more.Goals as goal

pub returns : goal.returns
returns c = each_move_does_more
