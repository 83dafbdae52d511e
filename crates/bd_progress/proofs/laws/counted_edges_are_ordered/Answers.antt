use Rattle.bd_progress.proofs.OrderLemmas.{counted_are_ordered}
use Rattle.bd_progress.proofs.laws.counted_edges_are_ordered.Goals as goal

pub returns : goal.returns
returns c = counted_are_ordered
