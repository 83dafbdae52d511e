use Rattle.std.proofs.Common.{◌≡◌, ◌++◌, filter, not}
use Rattle.std.specs.Prelude.{is_some}
use Rattle.mk_words.specs.Words.{words_of}
use Rattle.mk_words.specs.Patterns.{stem_of}
use Rattle.mk_words.proofs.SpacedLemmas.{ended}
use Rattle.mk_words.proofs.changed.other_words.Given as goal

abbrev pub invariant-loop-word : goal.invariant-loop-word
invariant-loop-word l = l.out.items ++ ended (filter (λ word. not (is_some (stem_of l.front l.behind word))) l.word-iterator) ≡ ended (filter (λ word. not (is_some (stem_of l.front l.behind word))) (words_of l.text))
