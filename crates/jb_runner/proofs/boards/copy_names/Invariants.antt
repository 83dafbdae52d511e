use Rattle.std.proofs.Common.{◌≡◌, take}
use Rattle.jb_runner.proofs.boards.copy_names.Given as goal

-- the names so far
abbrev pub invariant-loop-number : goal.invariant-loop-number
invariant-loop-number l = l.copied.items ≡ take l.number l.names
