use Rattle.std.proofs.Common.{◌-◌, length}
use Rattle.mk_graph.proofs.CycleLemmas.{Walks}
use Rattle.mk_graph.proofs.cycles.walk.Given as goal

abbrev pub invariant-loop-fresh : goal.invariant-loop-fresh
invariant-loop-fresh l = Walks l.edges l.marks l.path.items l.fresh.items l.at

abbrev pub decreases-loop-fresh : goal.decreases-loop-fresh
decreases-loop-fresh l = length l.edges - length l.path.items
