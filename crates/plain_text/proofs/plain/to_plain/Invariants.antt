use Rattle.std.proofs.Common.{◌≡◌, ◌++◌, length}
use Rattle.plain_text.specs.Plain.{plain, plain_behind}
use Rattle.plain_text.proofs.plain.to_plain.Given as goal

abbrev pub invariant-loop-byte : goal.invariant-loop-byte
invariant-loop-byte l = l.out.items ++ plain_behind l.missing l.rest ≡ plain l.text

abbrev pub decreases-loop-byte : goal.decreases-loop-byte
decreases-loop-byte l = length l.rest
