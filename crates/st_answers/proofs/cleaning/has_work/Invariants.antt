use Rattle.std.proofs.Common.{◌≡◌}
use Rattle.st_answers.specs.Cleaning.{has_work}
use Rattle.st_answers.proofs.cleaning.has_work.Given as goal

abbrev pub invariant-loop-command : goal.invariant-loop-command
invariant-loop-command l = has_work l.command-iterator ≡ has_work l.fn.commands
