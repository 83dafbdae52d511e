use Rattle.std.proofs.Common.{length}
use Rattle.store_rows.proofs.held.+all_may_be_committed.Given as goal

abbrev pub decreases-all_may_be_committed : goal.decreases-all_may_be_committed
decreases-all_may_be_committed l = length l.records.now
