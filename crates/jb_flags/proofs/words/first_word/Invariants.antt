use Rattle.std.proofs.Common.{length}
use Rattle.jb_flags.proofs.WordLemmas.{Leads}
use Rattle.jb_flags.proofs.words.first_word.Given as goal

abbrev pub invariant-loop-byte : goal.invariant-loop-byte
invariant-loop-byte l = Leads l.word.items l.fn.text l.rest

abbrev pub decreases-loop-byte : goal.decreases-loop-byte
decreases-loop-byte l = length l.rest
