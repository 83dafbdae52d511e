use Rattle.std.proofs.Common.{◌≡◌, ◌≢◌, ℕ, true, [], length}
use Rattle.mk_graph.specs.Counted.{joined}
use Rattle.mk_graph.specs.Edges.{row}
use Rattle.mk_graph.specs.Ready.{is_in}
use Rattle.mk_graph.specs.Watching.{is_passed, AreWatched}
use Rattle.mk_graph.proofs.watching.Waiting.release.Given as goal

abbrev pub invariant-loop-waiter : goal.invariant-loop-waiter
invariant-loop-waiter l = record {
  watched : AreWatched (joined l.first l.second) l.passed (is_in l.ready) l.self.from l.self.places.items l.self.lists;
  released : (p : ℕ) → p ≢ l.node → is_passed l.passed p ≡ true → row l.self.lists p ≡ [];
}

abbrev pub decreases-loop-waiter : goal.decreases-loop-waiter
decreases-loop-waiter l = length (row l.self.lists l.node)
