use Rattle.std.proofs.Common.{length, ◌-◌}
use Rattle.mk_graph.specs.Counted.{joined}
use Rattle.mk_graph.specs.Ready.{is_in}
use Rattle.mk_graph.specs.Watching.{AreWatched, AreReleased}
use Rattle.mk_graph.proofs.PlanLemmas.{Passes}
use Rattle.mk_graph.proofs.planning.plan_both.Given as goal

abbrev pub invariant-loop-order : goal.invariant-loop-order
invariant-loop-order l = record {
  passes : Passes (joined l.first l.second) l.passed.items l.order.items;
  watched : AreWatched (joined l.first l.second) l.passed.items (is_in l.ready) l.waiting.from l.waiting.places.items l.waiting.lists;
  released : AreReleased l.passed.items l.waiting.lists;
}

abbrev pub decreases-loop-order : goal.decreases-loop-order
decreases-loop-order l = length (joined l.first l.second) - length l.order.items
