use Rattle.std.proofs.Common.{◌≡◌, ◌++◌, drop}
use Rattle.std.specs.Prelude.{filter}
use Rattle.st_answers.specs.Why.{look_in}
use Rattle.st_answers.specs.Cleaning.{is_removable, removable}
use Rattle.st_answers.proofs.cleaning.removable.Given as goal

abbrev pub invariant-loop-number : goal.invariant-loop-number
invariant-loop-number l =
    l.found ++ filter (is_removable (look_in l.looks) l.outside l.state) (drop l.number l.names)
    ≡ removable (look_in l.looks) l.outside l.state l.names
