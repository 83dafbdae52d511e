use Rattle.std.proofs.Common.{◌≡◌, false}
use Rattle.mk_graph.specs.Counted.{joined}
use Rattle.mk_graph.specs.Watching.{AreWatched, AreReleased}
use Rattle.mk_graph.proofs.watching.Waiting.next_open.Given as goal

abbrev pub invariant-loop-node : goal.invariant-loop-node
invariant-loop-node l = record {
  here : l.self.from ≡ l.node;
  watched : AreWatched (joined l.first l.second) l.passed (λ n. false) l.self.from l.self.places.items l.self.lists;
  released : AreReleased l.passed l.self.lists;
}
