use Rattle.std.proofs.Common.{◌≡◌, drop}
use Rattle.byte_strings.proofs.byte_strings.ByteStrings.get.Given as goal

abbrev pub invariant-loop : goal.invariant-loop
invariant-loop l = l.left ≡ drop l.counter l.self
