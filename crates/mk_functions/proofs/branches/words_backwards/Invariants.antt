use Rattle.std.proofs.Common.{◌≡◌, ◌++◌, length}
use Rattle.mk_words.specs.Words.{words_of}
use Rattle.mk_functions.specs.Shown.{texts}
use Rattle.mk_functions.proofs.branches.words_backwards.Given as goal

abbrev pub invariant-loop-word : goal.invariant-loop-word
invariant-loop-word l = texts l.words.items ++ words_of l.rest ≡ words_of l.text

abbrev pub decreases-loop-word : goal.decreases-loop-word
decreases-loop-word l = length l.rest
