use Rattle.std.proofs.Common.{◌≡◌, true, length}
use Rattle.st_answers.specs.Compilations.{has_word}
use Rattle.st_answers.proofs.sources.has_word.Given as goal

abbrev pub invariant-loop-byte : goal.invariant-loop-byte
invariant-loop-byte l = has_word l.may_begin l.name l.rest ≡ has_word true l.fn.name l.fn.text

abbrev pub decreases-loop-byte : goal.decreases-loop-byte
decreases-loop-byte l = length l.rest
