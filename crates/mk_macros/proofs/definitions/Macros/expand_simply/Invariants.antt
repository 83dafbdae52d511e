use Rattle.std.proofs.Common.{length}
use Rattle.mk_macros.specs.Ranks.{defined_by}
use Rattle.mk_macros.proofs.SimpleLemmas.{SoFar}
use Rattle.mk_macros.proofs.definitions.Macros.expand_simply.Given as goal

abbrev pub invariant-loop-piece : goal.invariant-loop-piece
invariant-loop-piece l = SoFar (defined_by l.self) l.line l.text l.made.items l.rest

abbrev pub decreases-loop-piece : goal.decreases-loop-piece
decreases-loop-piece l = length l.rest
