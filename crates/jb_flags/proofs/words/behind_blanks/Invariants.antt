use Rattle.std.proofs.Common.{◌≡◌, length}
use Rattle.jb_flags.specs.Words.{behind_blanks}
use Rattle.jb_flags.proofs.words.behind_blanks.Given as goal

abbrev pub invariant-loop-first : goal.invariant-loop-first
invariant-loop-first l = behind_blanks l.fn.text ≡ behind_blanks l.rest

abbrev pub decreases-loop-first : goal.decreases-loop-first
decreases-loop-first l = length l.rest
