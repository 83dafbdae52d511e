use Rattle.std.proofs.Common.{◌≡◌, ◌++◌}
use Rattle.mk_words.specs.Words.{words_of}
use Rattle.mk_words.proofs.SpacedLemmas.{ended}
use Rattle.mk_words.proofs.joined.strip.Given as goal

abbrev pub invariant-loop-word : goal.invariant-loop-word
invariant-loop-word l = l.out.items ++ ended l.word-iterator ≡ ended (words_of l.text)
