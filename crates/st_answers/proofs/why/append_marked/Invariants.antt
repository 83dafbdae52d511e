use Rattle.std.proofs.Common.{◌≡◌, ◌++◌}
use Rattle.st_answers.specs.Why.{look_in, marked_why}
use Rattle.st_answers.proofs.why.append_marked.Given as goal

abbrev pub invariant-loop-name : goal.invariant-loop-name
invariant-loop-name l =
    l.text.items ++ marked_why (look_in l.looks) l.target l.name-iterator l.left
    ≡ l.fn.text.items ++ marked_why (look_in l.fn.looks) l.fn.target l.fn.names l.fn.marks
