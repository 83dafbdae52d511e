use Rattle.std.proofs.Common.{◌-◌, ◌^◌}
use Rattle.st_answers.specs.Graph.{prerequisites_of}
use Rattle.st_answers.proofs.ReachedLemmas.{AreReached}
use Rattle.st_answers.proofs.drawing.names_drawn.Given as goal

abbrev pub invariant-loop-looked_at : goal.invariant-loop-looked_at
invariant-loop-looked_at l = AreReached (prerequisites_of l.state l.extent.hidden l.extent.source) l.starts l.extent.depth l.names l.looked_at l.edges

abbrev pub decreases-loop-looked_at : goal.decreases-loop-looked_at
decreases-loop-looked_at l = 2 ^ 64 - l.looked_at
