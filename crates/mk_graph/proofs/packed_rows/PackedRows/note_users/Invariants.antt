use Rattle.std.proofs.Common.{length}
use Rattle.mk_graph.proofs.FillLemmas.{Filling}
use Rattle.mk_graph.proofs.packed_rows.PackedRows.note_users.Given as goal

abbrev pub invariant-loop-node : goal.invariant-loop-node
invariant-loop-node l = Filling l.self l.node (length l.fn.users) l.users l.next
