use Rattle.std.proofs.Common.{◌≡◌, ◌++◌, map}
use Rattle.mk_words.specs.Names.{dir_of}
use Rattle.mk_words.specs.Words.{words_of}
use Rattle.mk_words.proofs.SpacedLemmas.{ended}
use Rattle.mk_words.proofs.names.dir.Given as goal

abbrev pub invariant-loop-name : goal.invariant-loop-name
invariant-loop-name l = l.out.items ++ ended (map dir_of l.name-iterator) ≡ ended (map dir_of (words_of l.names))
