use Rattle.std.proofs.Common.{◌≡◌, ◌++◌, [], map, Some}
use Rattle.mk_words.specs.Words.{words_of}
use Rattle.mk_words.specs.Changed.{changed}
use Rattle.mk_words.proofs.SpacedLemmas.{ended}
use Rattle.mk_words.proofs.changed.changed_ends.Given as goal

abbrev pub invariant-loop-word : goal.invariant-loop-word
invariant-loop-word l = l.out.items ++ ended (map (changed [] l.end ([], Some l.fn.to)) l.word-iterator) ≡ ended (map (changed [] l.end ([], Some l.fn.to)) (words_of l.text))
