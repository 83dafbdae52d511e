use Rattle.std.proofs.Common.{◌≡◌, length}
use Rattle.std.specs.List.{list_any}
use Rattle.byte_strings.specs.Blanks.{words}
use Rattle.mk_eval.specs.Unmade.{is_spelled}
use Rattle.mk_eval.proofs.unmade.any_is_spelled.Given as goal

abbrev pub invariant-loop-word : goal.invariant-loop-word
invariant-loop-word l = list_any (is_spelled l.name) (words l.rest) ≡ list_any (is_spelled l.name) (words l.targets)

abbrev pub decreases-loop-word : goal.decreases-loop-word
decreases-loop-word l = length l.rest
