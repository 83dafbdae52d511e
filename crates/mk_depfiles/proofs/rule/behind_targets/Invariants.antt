use Rattle.std.proofs.Common.{◌≡◌, false, length}
use Rattle.mk_depfiles.specs.Rule.{behind_targets}
use Rattle.mk_depfiles.proofs.rule.behind_targets.Given as goal

abbrev pub invariant-loop-word : goal.invariant-loop-word
invariant-loop-word l = behind_targets l.has_target l.left ≡ behind_targets false l.fn.words

abbrev pub decreases-loop-word : goal.decreases-loop-word
decreases-loop-word l = length l.left
