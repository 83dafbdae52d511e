use Rattle.std.proofs.Common.{◌≡◌, ◌++◌, map}
use Rattle.mk_words.specs.Names.{basename_of}
use Rattle.mk_words.specs.Words.{words_of}
use Rattle.mk_words.proofs.SpacedLemmas.{ended}
use Rattle.mk_words.proofs.names.basename.Given as goal

abbrev pub invariant-loop-name : goal.invariant-loop-name
invariant-loop-name l = l.out.items ++ ended (map basename_of l.name-iterator) ≡ ended (map basename_of (words_of l.names))
