use Rattle.std.proofs.Common.{◌≡◌, ◌++◌, ◌∷◌}
use Rattle.st_packed.proofs.packed.in_front.Given as goal

-- what stands in front so far, and the commands that are left
abbrev pub invariant-loop-command : goal.invariant-loop-command
invariant-loop-command l = l.front ++ l.command-iterator ≡ l.marks ∷ l.fn.commands
