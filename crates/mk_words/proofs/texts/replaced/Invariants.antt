use Rattle.std.proofs.Common.{◌≡◌, ◌++◌, length}
use Rattle.mk_words.specs.Texts.{replaced}
use Rattle.mk_words.proofs.texts.replaced.Given as goal

abbrev pub invariant-loop-byte : goal.invariant-loop-byte
invariant-loop-byte l = l.out.items ++ replaced l.from l.to 0 l.rest ≡ replaced l.from l.to 0 l.text

abbrev pub decreases-loop-byte : goal.decreases-loop-byte
decreases-loop-byte l = length l.rest
