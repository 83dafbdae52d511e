use Rattle.std.proofs.Common.{◌≡◌, ◌++◌, map, filter}
use Rattle.byte_strings.specs.Blanks.{is_nonempty}
use Rattle.mk_words.specs.Names.{suffix_of}
use Rattle.mk_words.specs.Words.{words_of}
use Rattle.mk_words.proofs.SpacedLemmas.{ended}
use Rattle.mk_words.proofs.names.suffix.Given as goal

abbrev pub invariant-loop-name : goal.invariant-loop-name
invariant-loop-name l = l.out.items ++ ended (filter is_nonempty (map suffix_of l.name-iterator)) ≡ ended (filter is_nonempty (map suffix_of (words_of l.names)))
