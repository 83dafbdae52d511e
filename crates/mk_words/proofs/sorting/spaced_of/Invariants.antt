use Rattle.std.proofs.Common.{◌≡◌, ◌++◌, map}
use Rattle.mk_words.proofs.SortedLemmas.{bytes_at}
use Rattle.mk_words.proofs.SpacedLemmas.{ended}
use Rattle.mk_words.proofs.sorting.spaced_of.Given as goal

abbrev pub invariant-loop-word : goal.invariant-loop-word
invariant-loop-word l = l.out.items ++ ended (map bytes_at l.word-iterator) ≡ ended (map bytes_at l.words.keys)
