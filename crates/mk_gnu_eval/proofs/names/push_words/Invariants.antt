use Rattle.std.proofs.Common.{◌≡◌, ◌++◌, length}
use Rattle.mk_words.specs.Words.{words_of}
use Rattle.mk_gnu_eval.proofs.names.push_words.Given as goal

abbrev pub invariant-loop-word : goal.invariant-loop-word
invariant-loop-word l = l.names ++ words_of l.rest ≡ l.initial.names ++ words_of l.text

abbrev pub decreases-loop-word : goal.decreases-loop-word
decreases-loop-word l = length l.rest
