use Rattle.std.proofs.Common.{◌≡◌, ◌||◌, ℕ, List, map}
use Rattle.mk_words.specs.Words.{words_of}
use Rattle.mk_words.specs.Patterns.{pattern_of, fits_any, fits_parted}
use Rattle.mk_words.proofs.PartedLemmas.{bytes_of}
use Rattle.mk_words.proofs.patterns.Patterns.of.Given as goal

abbrev pub invariant-loop-word : goal.invariant-loop-word
invariant-loop-word l = (word : List ℕ) →
    (fits_parted (map bytes_of l.patterns.literals.keys) l.patterns.forms.items word || fits_any (map pattern_of l.word-iterator) word) ≡ fits_any (map pattern_of (words_of l.text)) word
