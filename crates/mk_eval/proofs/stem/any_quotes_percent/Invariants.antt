use Rattle.std.proofs.Common.{◌≡◌, length}
use Rattle.std.specs.List.{list_any}
use Rattle.byte_strings.specs.Blanks.{words}
use Rattle.mk_eval.specs.Static.{quotes_percent}
use Rattle.mk_eval.proofs.stem.any_quotes_percent.Given as goal

abbrev pub invariant-loop-word : goal.invariant-loop-word
invariant-loop-word l = list_any quotes_percent (words l.rest) ≡ list_any quotes_percent (words l.patterns)

abbrev pub decreases-loop-word : goal.decreases-loop-word
decreases-loop-word l = length l.rest
