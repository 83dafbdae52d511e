use Rattle.std.specs.List.{All}
use Rattle.dmk_parts.specs.Tried.{IsBuilt}
use Rattle.dmk_parts.proofs.made.filed_in.Given as goal

abbrev pub invariant-loop-node : goal.invariant-loop-node
invariant-loop-node l = All (IsBuilt l.graph l.ends) l.filed
