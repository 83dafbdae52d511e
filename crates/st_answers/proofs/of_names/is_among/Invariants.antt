use Rattle.std.proofs.Common.{◌≡◌}
use Rattle.st_answers.specs.Users.{is_among}
use Rattle.st_answers.proofs.of_names.is_among.Given as goal

abbrev pub invariant-loop-other : goal.invariant-loop-other
invariant-loop-other l = is_among l.name l.other-iterator ≡ is_among l.fn.name l.fn.names
