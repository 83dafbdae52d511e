use Rattle.std.proofs.Common.{◌≡◌, length}
use Rattle.jb_flags.specs.Words.{behind_blanks}
use Rattle.jb_flags.proofs.WordLemmas.{Finds}
use Rattle.jb_flags.proofs.words.words_of.Given as goal

abbrev pub invariant-loop-rest : goal.invariant-loop-rest
invariant-loop-rest l = Finds l.words l.fn.makeflags l.rest × (behind_blanks l.rest ≡ l.rest)

abbrev pub decreases-loop-rest : goal.decreases-loop-rest
decreases-loop-rest l = length l.rest
