use Rattle.std.proofs.Common.{◌≡◌, false, ◌++◌, length}
use Rattle.mk_reader.specs.Form.{unescaped_from}
use Rattle.mk_reader.proofs.comment.unescaped.Given as goal

abbrev pub invariant-loop-byte : goal.invariant-loop-byte
invariant-loop-byte l = l.content.items ++ unescaped_from l.is_behind l.rest ≡ unescaped_from false l.text

abbrev pub decreases-loop-byte : goal.decreases-loop-byte
decreases-loop-byte l = length l.rest
