use Rattle.std.proofs.Common.{◌≡◌, drop}
use Rattle.mk_words.specs.Patterns.{fits_any}
use Rattle.mk_words.proofs.patterns.fits_any.Given as goal

abbrev pub invariant-loop-pattern : goal.invariant-loop-pattern
invariant-loop-pattern l = fits_any (drop l.pattern-index l.patterns) l.word ≡ fits_any l.patterns l.word
