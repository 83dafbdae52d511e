use Rattle.std.proofs.Common.{◌≡◌, ◌++◌, length}
use Rattle.byte_strings.specs.Blanks.{words}
use Rattle.mk_eval.specs.Static.{prerequisites_with}
use Rattle.mk_eval.proofs.stem.prerequisites_with.Given as goal

abbrev pub invariant-loop-word : goal.invariant-loop-word
invariant-loop-word l = l.out.items ++ prerequisites_with l.stem (words l.rest) ≡ prerequisites_with l.stem (words l.patterns)

abbrev pub decreases-loop-word : goal.decreases-loop-word
decreases-loop-word l = length l.rest
