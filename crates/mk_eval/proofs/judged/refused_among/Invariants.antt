use Rattle.std.proofs.Common.{◌≡◌, length}
use Rattle.byte_strings.specs.Blanks.{words}
use Rattle.mk_eval.specs.Judged.{refused_among}
use Rattle.mk_eval.proofs.judged.refused_among.Given as goal

abbrev pub invariant-loop-word : goal.invariant-loop-word
invariant-loop-word l = refused_among (words l.rest) ≡ refused_among (words l.targets)

abbrev pub decreases-loop-word : goal.decreases-loop-word
decreases-loop-word l = length l.rest
