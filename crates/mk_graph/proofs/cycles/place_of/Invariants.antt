use Rattle.std.proofs.Common.{◌≡◌, false, take}
use Rattle.mk_graph.specs.Edges.{has}
use Rattle.mk_graph.proofs.cycles.place_of.Given as goal

abbrev pub invariant-loop-place : goal.invariant-loop-place
invariant-loop-place l = has (take l.place l.numbers) l.number ≡ false
