use Rattle.std.proofs.Common.{◌≡◌, true, false, take, slice_index_or}
use Rattle.std.specs.List.{list_all}
use Rattle.mk_graph.proofs.cycles.unmarked_of.Given as goal

abbrev pub invariant-loop-node : goal.invariant-loop-node
invariant-loop-node l = list_all (λ n. slice_index_or l.marks n false) (take l.node-index l.nodes) ≡ true
