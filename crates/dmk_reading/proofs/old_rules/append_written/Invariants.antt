use Rattle.std.proofs.Common.{◌≡◌, ◌++◌, drop}
use Rattle.dmk_reading.specs.OldRules.{written}
use Rattle.dmk_reading.proofs.old_rules.append_written.Given as goal

abbrev pub invariant-loop-byte : goal.invariant-loop-byte
invariant-loop-byte l = l.text.items ++ written (drop l.byte-index l.word) ≡ l.fn.text.items ++ written l.word
