use Rattle.std.proofs.Common.{◌≡◌, ◌++◌, map, filter}
use Rattle.mk_words.specs.Words.{words_of}
use Rattle.mk_words.specs.Patterns.{fits_parted}
use Rattle.mk_words.proofs.PartedLemmas.{bytes_of}
use Rattle.mk_words.proofs.SpacedLemmas.{ended}
use Rattle.mk_words.proofs.patterns.filter.Given as goal

abbrev pub invariant-loop-word : goal.invariant-loop-word
invariant-loop-word l =
    l.out.items ++ ended (filter (fits_parted (map bytes_of l.patterns.literals.keys) l.patterns.forms.items) l.word-iterator) ≡ ended (filter (fits_parted (map bytes_of l.patterns.literals.keys) l.patterns.forms.items) (words_of l.text))
