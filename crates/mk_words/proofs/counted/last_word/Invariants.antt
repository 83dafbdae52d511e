use Rattle.std.proofs.Common.{◌≡◌}
use Rattle.mk_words.specs.Words.{words_of}
use Rattle.mk_words.specs.Counted.{last_or, last_word}
use Rattle.mk_words.proofs.counted.last_word.Given as goal

abbrev pub invariant-loop-word : goal.invariant-loop-word
invariant-loop-word l = last_or l.last l.word-iterator ≡ last_word (words_of l.text)
