use Rattle.board_rows.proofs.DistinctLemmas.{AreNew}
use Rattle.board_rows.proofs.distinct.are_distinct.Given as goal

abbrev pub invariant-loop-name : goal.invariant-loop-name
invariant-loop-name l = AreNew l.names l.name-index l.seen
