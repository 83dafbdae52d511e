use Rattle.std.proofs.Common.{◌≡◌, ◌++◌, map}
use Rattle.mk_words.specs.Words.{words_of}
use Rattle.mk_words.specs.Patterns.{pattern_of}
use Rattle.mk_words.specs.Changed.{changed}
use Rattle.mk_words.proofs.SpacedLemmas.{ended}
use Rattle.mk_words.proofs.changed.changed_words.Given as goal

abbrev pub invariant-loop-word : goal.invariant-loop-word
invariant-loop-word l = l.out.items ++ ended (map (changed l.front l.behind (pattern_of l.replacement)) l.word-iterator) ≡ ended (map (changed l.front l.behind (pattern_of l.replacement)) (words_of l.text))
