use Rattle.std.proofs.Common.{◌≡◌, ◌++◌, length}
use Rattle.mk_functions.specs.Values.{behind_commas}
use Rattle.mk_functions.specs.Shown.{texts}
use Rattle.mk_functions.proofs.applied.message_of.Given as goal

abbrev pub invariant-loop-text : goal.invariant-loop-text
invariant-loop-text l = l.out.items ++ behind_commas (texts l.left) ≡ l.first ++ behind_commas (texts l.more)

abbrev pub decreases-loop-text : goal.decreases-loop-text
decreases-loop-text l = length l.left
