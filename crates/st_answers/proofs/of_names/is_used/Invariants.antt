use Rattle.std.proofs.Common.{◌≡◌, drop}
use Rattle.std.specs.List.{list_any}
use Rattle.st_answers.specs.Users.{stands_on}
use Rattle.st_answers.proofs.of_names.is_used.Given as goal

abbrev pub invariant-loop-place : goal.invariant-loop-place
invariant-loop-place l = list_any (stands_on l.name) (drop l.place l.named) ≡ list_any (stands_on l.name) l.named
