use Rattle.std.proofs.Common.{◌≡◌, ◌++◌, drop}
use Rattle.std.specs.List.{flat_map}
use Rattle.st_answers.specs.Answers.{target_row}
use Rattle.st_answers.proofs.of_targets.targets.Given as goal

abbrev pub invariant-loop-place : goal.invariant-loop-place
invariant-loop-place l = l.text.items ++ flat_map target_row (drop l.place l.named) ≡ flat_map target_row l.named
