use Rattle.std.proofs.Common.{◌≡◌, ◌++◌, drop}
use Rattle.std.specs.List.{flat_map}
use Rattle.st_answers.specs.Why.{look_in, name_why, why_text}
use Rattle.st_answers.proofs.why.causes.Given as goal

abbrev pub invariant-loop-number : goal.invariant-loop-number
invariant-loop-number l =
    l.text.items ++ flat_map (name_why (look_in l.looks) l.state) (drop l.number l.names) ≡ why_text (look_in l.looks) l.state l.names
