use Rattle.std.proofs.Common.{◌≡◌, ◌++◌, true, length}
use Rattle.mk_words.specs.Changed.{exchanged}
use Rattle.mk_words.proofs.changed.exchanged.Given as goal

abbrev pub invariant-loop-byte : goal.invariant-loop-byte
invariant-loop-byte l = l.out.items ++ exchanged l.from l.to 0 l.begins l.rest ≡ exchanged l.from l.to 0 true l.text

abbrev pub decreases-loop-byte : goal.decreases-loop-byte
decreases-loop-byte l = length l.rest
