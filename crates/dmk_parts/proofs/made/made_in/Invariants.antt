use Rattle.std.specs.List.{All}
use Rattle.dmk_parts.specs.Tried.{IsBuiltWithoutFile}
use Rattle.dmk_parts.proofs.made.made_in.Given as goal

abbrev pub invariant-loop-node : goal.invariant-loop-node
invariant-loop-node l = All (λ m. IsBuiltWithoutFile l.graph l.ends m.name) l.made.items
