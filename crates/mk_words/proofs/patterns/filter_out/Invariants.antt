use Rattle.std.proofs.Common.{◌≡◌, ◌++◌, map, filter, not}
use Rattle.mk_words.specs.Words.{words_of}
use Rattle.mk_words.specs.Patterns.{fits_parted}
use Rattle.mk_words.proofs.PartedLemmas.{bytes_of}
use Rattle.mk_words.proofs.SpacedLemmas.{ended}
use Rattle.mk_words.proofs.patterns.filter_out.Given as goal

abbrev pub invariant-loop-word : goal.invariant-loop-word
invariant-loop-word l =
    l.out.items ++ ended (filter (λ word. not (fits_parted (map bytes_of l.patterns.literals.keys) l.patterns.forms.items word)) l.word-iterator) ≡ ended (filter (λ word. not (fits_parted (map bytes_of l.patterns.literals.keys) l.patterns.forms.items word)) (words_of l.text))
