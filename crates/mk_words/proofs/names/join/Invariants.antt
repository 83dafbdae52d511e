use Rattle.std.proofs.Common.{◌≡◌, ◌++◌}
use Rattle.mk_words.specs.Names.{paired}
use Rattle.mk_words.specs.Words.{words_of}
use Rattle.mk_words.proofs.SpacedLemmas.{ended}
use Rattle.mk_words.proofs.names.join.Given as goal

abbrev pub invariant-loop-word : goal.invariant-loop-word
invariant-loop-word l = l.out.items ++ ended (paired l.word-iterator l.others) ≡ ended (paired (words_of l.first) (words_of l.second))

abbrev pub invariant-loop-word-2 : goal.invariant-loop-word-2
invariant-loop-word-2 l = l.out.items ++ ended l.word-iterator ≡ ended (paired (words_of l.first) (words_of l.second))
