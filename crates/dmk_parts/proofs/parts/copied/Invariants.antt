use Rattle.std.proofs.Common.{◌≡◌, take}
use Rattle.dmk_parts.proofs.parts.copied.Given as goal

abbrev pub invariant-loop-definition : goal.invariant-loop-definition
invariant-loop-definition l = l.copies.items ≡ take l.definition-index l.definitions
