use Rattle.std.proofs.Common.{◌≡◌, length}
use Rattle.mk_words.specs.Texts.{stands_in}
use Rattle.mk_words.proofs.texts.stands_in.Given as goal

abbrev pub invariant-loop-behind : goal.invariant-loop-behind
invariant-loop-behind l = stands_in l.find l.rest ≡ stands_in l.find l.text

abbrev pub decreases-loop-behind : goal.decreases-loop-behind
decreases-loop-behind l = length l.rest
