use Rattle.std.proofs.Common.{ℕ, ◌<◌}
use Rattle.dmk_run.specs.Known.{IsNodeKnownDone}
use Rattle.dmk_run.proofs.known.are_known_done.Given as goal

-- the nodes so far are known as done
abbrev pub invariant-loop-node : goal.invariant-loop-node
invariant-loop-node l = (k : ℕ) → k < l.node → IsNodeKnownDone l.graph l.state k
