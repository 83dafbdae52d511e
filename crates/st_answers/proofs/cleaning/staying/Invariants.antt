use Rattle.std.proofs.Common.{◌≡◌, ◌++◌, drop}
use Rattle.std.specs.List.{flat_map}
use Rattle.st_answers.specs.Why.{look_in}
use Rattle.st_answers.specs.Cleaning.{name_row, stay_text}
use Rattle.st_answers.proofs.cleaning.staying.Given as goal

abbrev pub invariant-loop-number : goal.invariant-loop-number
invariant-loop-number l =
    l.text.items ++ flat_map (name_row (look_in l.looks) l.outside l.state) (drop l.number l.names)
    ≡ stay_text (look_in l.looks) l.outside l.state l.names
