use Rattle.std.proofs.Common.{◌≡◌, ◌||◌, ℕ, List, map}
use Rattle.mk_words.specs.Words.{words_of}
use Rattle.mk_words.specs.Sorted.{is_among}
use Rattle.mk_words.proofs.SortedLemmas.{bytes_at}
use Rattle.mk_words.proofs.sorting.sort.Given as goal

abbrev pub invariant-loop-word : goal.invariant-loop-word
invariant-loop-word l = (word : List ℕ) → (is_among (map bytes_at l.words.keys) word || is_among l.word-iterator word) ≡ is_among (words_of l.text) word
